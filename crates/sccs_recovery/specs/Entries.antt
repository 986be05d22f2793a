-- What recovery makes of a p-file.
use Rattle.std.specs.Prelude.{◌≡◌, ℕ, true, List, Option, None, Some, All, IsSome, Result, Ok, Err}
use Rattle.sccs_base.specs.Name.{q_file}
use Rattle.sccs_disk.specs.Files.{Content, View, put}
use Rattle.sccs_history.specs.declared.headers.Record.{Record}
use Rattle.sccs_pfile.specs.Entries.{IsEdit}
use Rattle.sccs_pfile.specs.Recovered.{entries_dropped, recovered_pfile, written_pfile}
use Rattle.sccs_pfile.specs.declared.entries.Edit.{Edit}
use Rattle.sccs_sid.specs.declared.refusals.StepFault.{StepFault}
use Rattle.sccs_sid.specs.declared.refusals.StepFault.TheVariants.{Refused}
use Rattle.sccs_store.specs.Commits.{Becomes}
use Rattle.sccs_store.specs.declared.new_files.NewFile.{NewFile}
use Rattle.sccs_store.specs.declared.new_files.NewFile.TheVariants.{Keep, Replace, Remove}
use Rattle.sccs_recovery.specs.Checks.{readable}
use Rattle.sccs_recovery.specs.declared.entries_left.PfileLeft.{PfileLeft}
use Rattle.sccs_recovery.specs.declared.entries_left.PfileLeft.TheVariants.{Same, Gone, Others}

-- the p-file that is left of one: the same file, none, or one of these entries
abbrev pub pfile_left : Option Content → PfileLeft → Option Content
pfile_left p Same = p
pfile_left p Gone = None
pfile_left p (Others edits) = Some (written_pfile edits)

-- so much is left of a p-file with these entries
abbrev pub LeavesEntries : List Record → List Edit → PfileLeft → Type 0
LeavesEntries records edits left = (c : Content) → entries_dropped records edits c ≡ pfile_left (Some c) left

-- a p-file that is to be removed is there
abbrev pub IsGone : Option Content → PfileLeft → Type 0
IsGone p Same = Unit {0}
IsGone p Gone = IsSome p
IsGone p (Others edits) = Unit {0}

-- what recovery leaves of an s-file and a p-file
pub record Recovers (s p : Option Content) (left : PfileLeft) : Type 0 where
  pub is : recovered_pfile s p ≡ pfile_left p left
  pub gone : IsGone p left

-- the entries that are left have a spelling
abbrev pub HasEntries : PfileLeft → Type 0
HasEntries Same = Unit {0}
HasEntries Gone = Unit {0}
HasEntries (Others edits) = All IsEdit edits

-- what a call found of an s-file and a p-file, or the first check that fails
abbrev pub Finds : Option Content → Option Content → Result PfileLeft StepFault → Type 0
Finds s p (Ok left) = (readable s p ≡ Ok true) × Recovers s p left
Finds s p (Err (Refused refusal)) = readable s p ≡ Err refusal
Finds s p (Err fault) = Unit {0}

-- what a commit is to make of the p-file
abbrev pub new_of : PfileLeft → NewFile
new_of Same = Keep
new_of Gone = Remove
new_of (Others edits) = Replace

-- the q-file is prepared, where one is wanted
abbrev pub PreparesLeft : List ℕ → PfileLeft → Option View → Option View → Type 0
PreparesLeft n Same old new = new ≡ old
PreparesLeft n Gone old new = new ≡ old
PreparesLeft n (Others edits) old new = Becomes (λ v. put v (q_file n) (Some (written_pfile edits))) old new
