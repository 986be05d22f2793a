-- What the parts of import answer, where a view is told.
use Rattle.std.specs.Prelude.{◌≡◌, ℕ, suc, ◌<◌, ◌≤◌, Bool, true, List, [], ◌∷◌, length, Option, None, Some, IfSome}
use Rattle.std.specs.Prelude.{IsSome, Result, Ok, Err, slice_get}
use Rattle.std.specs.Str.{bytes_eq}
use Rattle.sccs_base.specs.Constants.{file_limit}
use Rattle.sccs_base.specs.Name.{x_file}
use Rattle.sccs_sid.specs.declared.refusals.Refusal.{Refusal}
use Rattle.sccs_sid.specs.declared.refusals.Refusal.TheVariants as refusals
use Rattle.sccs_sid.specs.declared.refusals.StepFault.{StepFault}
use Rattle.sccs_sid.specs.declared.refusals.StepFault.TheVariants.{Refused, Memory, ReadFault, WriteFault, DiskFault}
use Rattle.sccs_disk.specs.Files.{View, put}
use Rattle.sccs_name_files.specs.StepFiles.{Moves}
use Rattle.sccs_history.specs.Body.{HistoryLine}
use Rattle.sccs_store.specs.Commits.{Becomes}
use Rattle.sccs_store.specs.declared.new_files.NewFile.TheVariants.{Keep}
use Rattle.sccs_changes.specs.Changes.{unlocked}
use Rattle.sccs_changes.specs.declared.prepared.Prepared.{Prepared}
use Rattle.sccs_trunks.specs.Counts.{counts_at}
use Rattle.sccs_trunks.specs.declared.counts.LineCounts.{LineCounts}
use Rattle.sccs_rcs_file.specs.Trunk.{rcs_read}
use Rattle.sccs_trunks.specs.declared.revisions.Rcs.{Rcs}
use Rattle.sccs_rcs.specs.ImportStep.{found_rcs, import_report, named_bytes, or_refused, rcs_content, rcs_file}
use Rattle.sccs_rcs.specs.declared.finding.Found.{Found}
use Rattle.sccs_rcs.specs.declared.finding.Found.TheVariants.{Whole, TooLong}

-- ---- the trunk

-- the bytes of the RCS file, which may be too long
abbrev pub IsFound : Result (List ℕ) Refusal → Result Found StepFault → Type 0
IsFound found (Ok (Whole bytes)) = (found ≡ Ok bytes) × (length bytes ≤ file_limit)
IsFound found (Ok TooLong) = (bytes : List ℕ) × (found ≡ Ok bytes) × (file_limit < length bytes)
IsFound found (Err (Refused refusal)) = (refusal ≡ refusals.Missing) × (found ≡ Err refusal)
IsFound found (Err Memory) = Unit {0}
IsFound found (Err DiskFault) = Unit {0}
IsFound found (Err ReadFault) = ⊥
IsFound found (Err WriteFault) = ⊥

-- the same of a name, as it was before the lock
abbrev pub FindsBytes : Result Found StepFault → List ℕ → Option View → Type 0
FindsBytes r n told = IfSome told (λ v. IsFound (named_bytes (unlocked n v (rcs_file n) ∷ [])) r)

-- whether the name has no s-file yet
abbrev pub IsFresh : Result (Unit {0}) StepFault → List ℕ → Option View → Type 0
IsFresh (Ok done) n told = IfSome told (λ v. v n ≡ None)
IsFresh (Err (Refused refusal)) n told = (refusal ≡ refusals.Exists) × IfSome told (λ v. IsSome (v n))
IsFresh (Err Memory) n told = ⊥
IsFresh (Err ReadFault) n told = ⊥
IsFresh (Err WriteFault) n told = ⊥
IsFresh (Err DiskFault) n told = Unit {0}

-- the trunk of bytes, or why they have none
abbrev pub TakesTrunk : Result Rcs StepFault → Found → Type 0
TakesTrunk (Ok rcs) (Whole bytes) = rcs_read bytes ≡ Ok rcs
TakesTrunk (Ok rcs) TooLong = ⊥
TakesTrunk (Err (Refused refusal)) (Whole bytes) = or_refused (rcs_read bytes) ≡ Err refusal
TakesTrunk (Err (Refused refusal)) TooLong = refusal ≡ refusals.TooLong
TakesTrunk (Err Memory) found = Unit {0}
TakesTrunk (Err DiskFault) found = ⊥
TakesTrunk (Err ReadFault) found = ⊥
TakesTrunk (Err WriteFault) found = ⊥

-- a trunk that some bytes are
abbrev pub IsRead : Rcs → Type 0
IsRead rcs = (bytes : List ℕ) × (rcs_read bytes ≡ Ok rcs)

abbrev pub AnswersRcs : Result Rcs Refusal → Result Rcs StepFault → Type 0
AnswersRcs found (Ok rcs) = found ≡ Ok rcs
AnswersRcs found (Err (Refused refusal)) = found ≡ Err refusal
AnswersRcs found (Err fault) = Unit {0}

-- the trunk of a name, as it was before the lock
abbrev pub FindsRcs : Result Rcs StepFault → List ℕ → Option View → Type 0
FindsRcs r n told = IfSome told (λ v. AnswersRcs (found_rcs (unlocked n v (rcs_file n) ∷ []) (v n)) r)

-- ---- the new file

-- the counts of each serial, from 1 on
pub record AreCounts (lines : List HistoryLine) (serials : ℕ) (counts : List LineCounts) : Type 0 where
  pub count : length counts ≡ serials
  pub each : (n : ℕ) → n < serials → slice_get counts n ≡ Some (counts_at (suc n) lines)

-- the s-file is replaced, all else kept, and this is said
pub record IsImported (said : List ℕ) (p : Prepared) : Type 0 where
  pub s : p.new_s ≡ true
  pub p_state : p.new_p ≡ Keep
  pub g : p.new_g ≡ Keep
  pub report : p.report ≡ said
  pub message : p.message ≡ []

-- the x-file is that of the trunk; or at most the x-file has changed
abbrev pub WritesRcs : Result Prepared StepFault → Bool → Rcs → List ℕ → Option View → Option View → Type 0
WritesRcs (Ok p) heading rcs n old new = IsImported (import_report heading n rcs) p
    × Becomes (λ v. put v (x_file n) (Some (rcs_content rcs))) old new
WritesRcs (Err (Refused refusal)) heading rcs n old new = ⊥
WritesRcs (Err fault) heading rcs n old new = Moves (bytes_eq (x_file n)) (λ v. v) old new
