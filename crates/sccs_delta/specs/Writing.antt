-- What is written of a delta.
use Rattle.std.specs.Prelude.{◌≡◌, ℕ, suc, ◌+◌, ◌-◌, Bool, true, List, length, remove, map, drop, Option, Some, IfSome}
use Rattle.std.specs.Prelude.{Result, Ok, Err}
use Rattle.sccs_base.specs.Name.{q_file, x_file}
use Rattle.sccs_disk.specs.Files.{Content, View, put}
use Rattle.sccs_disk.specs.Told.{Told, seen}
use Rattle.sccs_sid.specs.declared.moments.Stamp.{Stamp}
use Rattle.sccs_sid.specs.declared.sids.Sid.{Sid}
use Rattle.sccs_sid.specs.declared.refusals.StepFault.{StepFault}
use Rattle.sccs_sid.specs.declared.refusals.StepFault.TheVariants.{Refused, Memory, ReadFault, WriteFault, DiskFault}
use Rattle.sccs_history.specs.Applied.{newest}
use Rattle.sccs_history.specs.History.{IsSpelled}
use Rattle.sccs_history.specs.declared.headers.Header.{Header}
use Rattle.sccs_history.specs.declared.headers.Item.{Item}
use Rattle.sccs_script_laws.specs.Plans.{plan}
use Rattle.sccs_script_laws.specs.declared.scripts.Order.{Order}
use Rattle.sccs_pfile.specs.Recovered.{pfile_of}
use Rattle.sccs_pfile.specs.declared.entries.Edit.{Edit}
use Rattle.sccs_records.specs.NewDeltas.{null_delta}
use Rattle.sccs_splicer.specs.Splices.{new_splice}
use Rattle.sccs_store.specs.Commits.{Becomes, chosen}
use Rattle.sccs_store.specs.SealedFiles.{sealed}
use Rattle.sccs_changes.specs.Changes.{AreTakenOrGone, plan_of}
use Rattle.sccs_changes.specs.declared.prepared.Prepared.{Prepared}
use Rattle.sccs_changes.specs.NewEntries.{IsRenewed, OnlyGoes, kept_g}
use Rattle.sccs_words.specs.declared.commands.DeltaWords.{DeltaWords}
use Rattle.sccs_script_laws.specs.Places.{places}
use Rattle.sccs_sid.specs.Reading.{◌>>=◌}
use Rattle.sccs_sid.specs.declared.refusals.Refusal.{Refusal}
use Rattle.sccs_delta.specs.DeltaStep.{ChosenEntry, base_lines, counts_of, entry_delta, delta_report, fitted}
use Rattle.sccs_delta.specs.DeltaStep.{header_with, mrs_checked, nulls_of}
use Rattle.sccs_changes.specs.Reports.{warning}
use Rattle.sccs_delta.specs.declared.entries.Base.{Base}
use Rattle.sccs_delta.specs.declared.new_sfiles.NewSfile.{NewSfile}

-- What a delta's commit makes of its files: a new s-file, a new p-file or none, and no new g-file.
pub record IsDeltaPlan (p : Prepared) : Type 0 where
  pub s : p.new_s ≡ true
  pub renewed : IsRenewed p.new_p
  pub goes : OnlyGoes p.new_g

-- The s-file that the delta of an entry makes, with null deltas of these SIDs before it.
pub record IsSfileOf (words : DeltaWords) (stamp : Stamp) (header : Header) (edit : Edit) (base : Base)
    (orders : List Order) (lines : ℕ) (nulls : List Sid) (s : NewSfile) : Type 0 where
  pub header_is : s.header ≡ header_with header base.got (map (null_delta stamp) nulls)
      (entry_delta words stamp edit base.include base.exclude (counts_of (plan orders lines) lines))
  pub splicer_is : s.copying.filter.splicer
      ≡ new_splice (suc (newest header.records + length nulls)) (plan orders lines)
  pub set_is : s.copying.filter.set ≡ base.set
  pub sid_is : s.sid ≡ edit.made
  pub counts_is : s.counts ≡ counts_of (plan orders lines) lines

-- it is made, or no serial is left; of want of memory nothing is said
abbrev pub MakesSfile : DeltaWords → Stamp → Header → List Edit → Edit → Base → List Order → ℕ
    → Result NewSfile StepFault → Type 0
MakesSfile words stamp header edits edit base orders lines (Ok s) = (nulls : List Sid)
    × (nulls_of header edits edit ≡ Ok nulls) × IsSfileOf words stamp header edit base orders lines nulls s
MakesSfile words stamp header edits edit base orders lines (Err (Refused refusal)) = nulls_of header edits edit
    ≡ Err refusal
MakesSfile words stamp header edits edit base orders lines (Err Memory) = Unit {0}
MakesSfile words stamp header edits edit base orders lines (Err DiskFault) = Unit {0}
MakesSfile words stamp header edits edit base orders lines (Err ReadFault) = ⊥
MakesSfile words stamp header edits edit base orders lines (Err WriteFault) = ⊥

-- the x-file is this s-file; of a told file no refusal comes
abbrev pub WritesX : Header → List Item → List ℕ → Option View → Option View → Result (Unit {0}) StepFault → Type 0
WritesX h items n old new (Ok done) = Becomes (λ v. put v n (Some (sealed h items))) old new
WritesX h items n old new (Err (Refused refusal)) = ⊥
WritesX h items n old new (Err Memory) = Unit {0}
WritesX h items n old new (Err DiskFault) = Unit {0}
WritesX h items n old new (Err ReadFault) = ⊥
WritesX h items n old new (Err WriteFault) = ⊥

-- The x-file is this s-file, whose header has a spelling, a commit leaves these entries and the g-file or none, and
-- each working file that it doesn't take is gone, or as it was.
pub record WritesFiles (n : List ℕ) (h : Header) (items : List Item) (edits : List Edit) (keep : Bool)
    (report message : List ℕ) (p : Prepared) (old new : Told) : Type 0 where
  pub spelled : IsSpelled h
  pub new_s : p.new_s ≡ true
  pub report_is : p.report ≡ report
  pub message_is : p.message ≡ message
  pub x_state : IfSome (seen new) (λ (v : View). v (x_file n) ≡ Some (sealed h items))
  pub entries : IfSome (seen new) (λ (v : View). (kept : Option Content) → chosen p.new_p (v (q_file n)) kept
      ≡ pfile_of edits)
  pub g_state : IfSome (seen old) (λ (v : View). (y : Option Content) → chosen p.new_g y (v (drop 2 n)) ≡ kept_g keep
      (v (drop 2 n)))
  pub working : IfSome (seen old) (λ u. IfSome (seen new) (λ v. AreTakenOrGone n (plan_of p) u v))

-- of a told file no refusal comes
abbrev pub WritesDelta : List ℕ → Header → List Item → List Edit → Bool → List ℕ → List ℕ → Told → Told
    → Result Prepared StepFault → Type 0
WritesDelta n h items edits keep report message old new (Ok p) = WritesFiles n h items edits keep report message p old
    new
WritesDelta n h items edits keep report message old new (Err (Refused refusal)) = ⊥
WritesDelta n h items edits keep report message old new (Err Memory) = Unit {0}
WritesDelta n h items edits keep report message old new (Err DiskFault) = Unit {0}
WritesDelta n h items edits keep report message old new (Err ReadFault) = ⊥
WritesDelta n h items edits keep report message old new (Err WriteFault) = ⊥

-- the checks of a script and of the new record; what passes them are the SIDs of the null deltas
unfoldable pub script_checked : DeltaWords → Header → List Item → List Edit → ChosenEntry → List Order → Option Content
    → Result (List Sid) Refusal
script_checked words header items edits e orders g = do
  fits ← fitted header.flags orders (base_lines items e.base) g
  mrs ← mrs_checked header.flags words.mrs
  nulls_of header edits e.edit

-- The delta of an entry, with null deltas before it, is written; or a check fails.
abbrev pub MakesDelta : Result (List Sid) Refusal → DeltaWords → Stamp → List ℕ → Header → List Item → List Edit
    → ChosenEntry → List Order → Bool → Told → Told → Result Prepared StepFault → Type 0
MakesDelta checks words stamp n header items edits e orders keyword old new (Ok p) =
    let lines = base_lines items e.base in
    let counts = counts_of (plan orders (length lines)) (length lines) in
    (nulls : List Sid) × (checks ≡ Ok nulls)
    × WritesFiles n (header_with header e.base.got (map (null_delta stamp) nulls)
    (entry_delta words stamp e.edit e.base.include e.base.exclude counts))
    (places items e.base.set orders (suc (newest header.records + length nulls))) (remove edits (e.number - 1))
    words.keep (delta_report words.silent e.edit.made counts) (warning n keyword) p old new
MakesDelta checks words stamp n header items edits e orders keyword old new (Err (Refused refusal)) =
    checks ≡ Err refusal
MakesDelta checks words stamp n header items edits e orders keyword old new (Err Memory) = Unit {0}
MakesDelta checks words stamp n header items edits e orders keyword old new (Err DiskFault) = Unit {0}
MakesDelta checks words stamp n header items edits e orders keyword old new (Err ReadFault) = ⊥
MakesDelta checks words stamp n header items edits e orders keyword old new (Err WriteFault) = ⊥
