-- A p-file that is to have these entries, and what else a step makes of the files of its name.
use Rattle.std.specs.Prelude.{◌≡◌, ℕ, ◌-◌, Bool, false, List, [], ◌∷◌, drop, slice_get, Option, None, Some, IfSome}
use Rattle.std.specs.Prelude.{option_map, unwrap_or, Result, Ok, Err, if◌then◌else◌}
use Rattle.sccs_base.specs.Name.{p_file, q_file, y_file}
use Rattle.sccs_disk.specs.Files.{Content, View}
use Rattle.sccs_disk.specs.Told.{Told, seen}
use Rattle.sccs_disk.specs.Calls.{IsThere}
use Rattle.std.specs.Str.{bytes_eq}
use Rattle.sccs_name_files.specs.StepFiles.{Files, Moves}
use Rattle.sccs_sid.specs.Reading.{◌>>=◌}
use Rattle.sccs_sid.specs.Refusal.{number_of}
use Rattle.sccs_sid.specs.Sid.{sid_text}
use Rattle.sccs_sid.specs.declared.refusals.StepFault.{StepFault}
use Rattle.sccs_sid.specs.declared.refusals.StepFault.TheVariants.{Refused}
use Rattle.sccs_sid.specs.declared.refusals.Refusal.{Refusal}
use Rattle.sccs_sid.specs.declared.refusals.Refusal.TheVariants as refusals
use Rattle.sccs_pfile.specs.Recovered.{pfile_of}
use Rattle.sccs_pfile.specs.declared.choosing.Choice.{Choice}
use Rattle.sccs_pfile.specs.declared.choosing.Choice.TheVariants.{One, NoEdit, ManyEdits}
use Rattle.sccs_pfile.specs.declared.entries.Edit.{Edit}
use Rattle.sccs_steps.specs.Actions.{Step}
use Rattle.sccs_steps.specs.StepEffects.{StepEffect}
use Rattle.sccs_changes.specs.Pending.{Found, pending_of}
use Rattle.sccs_store.specs.Commits.{Needs, chosen}
use Rattle.sccs_store.specs.declared.new_files.NewFile.{NewFile}
use Rattle.sccs_store.specs.declared.new_files.NewFile.TheVariants.{Keep, Replace, Remove}
use Rattle.sccs_changes.specs.Changes.{IsTakenOrGone}
use Rattle.sccs_changes.specs.declared.prepared.Prepared.{Prepared}

-- the p-file has these entries, the g-file is this, and so much is reported on out
abbrev pub with_entries : Files → List Edit → Option Content → List ℕ → StepEffect
with_entries f edits g report = record {
  new = Some (record { s = f.s; p = pfile_of edits; z = None; g = g; l = f.l });
  text = [];
  out = report;
  err = [];
  status = 0;
}

-- the numbers of the checks on the entry that is meant
abbrev pub choice_checks : List ℕ
choice_checks = number_of refusals.NoEdit ∷ number_of refusals.ManyEdits ∷ []

-- the number of the entry that is meant, from 1; or none is pending, or the SID must be specified
abbrev pub or_no_edit : Choice → Result ℕ Refusal
or_no_edit (One number) = Ok number
or_no_edit NoEdit = Err refusals.NoEdit
or_no_edit ManyEdits = Err refusals.ManyEdits

-- the SID that the entry of a number is to make
abbrev pub made_text : List Edit → ℕ → List ℕ
made_text edits number = unwrap_or (option_map (λ (e : Edit). sid_text e.made) (slice_get edits (number - 1))) []

-- the g-file is kept, or removed where it is there
abbrev pub kept_g : Bool → Option Content → Option Content
kept_g keep g = if keep then g else None

-- What becomes of the p-file is prepared: a commit makes it the p-file of these entries, and takes the q-file, unless
-- there is none, or it is as it was.
pub record PreparesEntries (n : List ℕ) (edits : List Edit) (new : NewFile) (before told : Told) : Type 0 where
  pub chosen_is : IfSome (seen told) (λ (v : View). (old : Option Content) → chosen new (v (q_file n)) old
      ≡ pfile_of edits)
  pub needs : (edits ≡ [] → IsThere (p_file n) before) → Needs new (q_file n) (p_file n) told
  pub taken : IfSome (seen before) (λ u. IfSome (seen told) (λ v. IsTakenOrGone new (u (q_file n)) (v (q_file n))))

-- a p-file that a commit doesn't keep
abbrev pub IsRenewed : NewFile → Type 0
IsRenewed Keep = ⊥
IsRenewed Replace = Unit {0}
IsRenewed Remove = Unit {0}

-- a g-file of which a commit makes no new one
abbrev pub OnlyGoes : NewFile → Type 0
OnlyGoes Keep = Unit {0}
OnlyGoes Replace = ⊥
OnlyGoes Remove = Unit {0}

-- A commit leaves the g-file, or removes it.
pub record LeavesG (n : List ℕ) (keep : Bool) (new : NewFile) (told : Told) : Type 0 where
  pub chosen_is : IfSome (seen told) (λ (v : View). (y : Option Content) → chosen new y (v (drop 2 n)) ≡ kept_g keep
      (v (drop 2 n)))
  pub needs : Needs new (y_file n) (drop 2 n) told

-- What a change prepares that has these entries: the s-file stays, and this is reported.
pub record IsOfEntries (p : Prepared) (report : List ℕ) : Type 0 where
  pub s : p.new_s ≡ false
  pub report_is : p.report ≡ report
  pub message : p.message ≡ []

-- ---- a change of the entries

-- What a step decides of what it found: the entries that are left, whether the g-file is kept, and the report.
pub record Decided : Type 0 where
  pub edits : List Edit
  pub keep : Bool
  pub report : List ℕ

-- the step of such a change: the s-file and the p-file are read, and then it decides
unfoldable pub entries_outcome : (List ℕ → Found → Result Decided Refusal) → Step
entries_outcome decide n input named f = do
  found ← pending_of f.s f.p
  d ← decide n found
  Ok (with_entries f d.edits (kept_g d.keep f.g) d.report)

-- What was decided is prepared.
pub record IsDecided (n : List ℕ) (d : Decided) (p : Prepared) (old new : Told) : Type 0 where
  pub of : IsOfEntries p d.report
  pub moves : Moves (bytes_eq (q_file n)) (λ v. v) (seen old) (seen new)
  pub entries : PreparesEntries n d.edits p.new_p old new
  pub g : LeavesG n d.keep p.new_g old

-- or at most the q-file has changed
abbrev pub PreparesDecided : Result Prepared StepFault → List ℕ → Decided → Told → Told → Type 0
PreparesDecided (Ok p) n d old new = IsDecided n d p old new
PreparesDecided (Err (Refused refusal)) n d old new = ⊥
PreparesDecided (Err fault) n d old new = Moves (bytes_eq (q_file n)) (λ v. v) (seen old) (seen new)
