-- The l-file of a name, made through the y-file.
use Rattle.std.specs.Prelude.{◌≡◌, ◌≢◌, ◌⊎◌, ◌||◌, ◌≤◌, ℕ, Bool, true, List, Option, Some, Result, Err}
use Rattle.std.specs.Str.{bytes_eq}
use Rattle.sccs_base.specs.Name.{y_file}
use Rattle.sccs_base.specs.Stream.{Rose}
use Rattle.sccs_disk.specs.Effects.{renamed}
use Rattle.sccs_disk.specs.Files.{Content, Model, View, put, view_of}
use Rattle.sccs_disk.specs.Told.{Told, Tells}
use Rattle.sccs_name_files.specs.StepFiles.{Moves, l_file}
use Rattle.sccs_crash_points.specs.Calm.{IsCalm}
use Rattle.sccs_crash_points.specs.CrashPoints.{EndsBefore}
use Rattle.sccs_store.specs.Commits.{Becomes}
use Rattle.sccs_sid.specs.declared.refusals.Refusal.{Refusal}
use Rattle.sccs_sid.specs.declared.refusals.StepFault.{StepFault}
use Rattle.sccs_sid.specs.declared.refusals.StepFault.TheVariants.{Refused, ReadFault, WriteFault, DiskFault}

-- a summary in a file, which may be written
abbrev pub summary_file : List ℕ → Content
summary_file text = record { bytes = text; writable = true }

-- the y-file with it in the place of the l-file
abbrev pub l_made : List ℕ → List ℕ → View → View
l_made n text v = renamed (y_file n) (l_file n) (put v (y_file n) (Some (summary_file text)))

-- at most the y-file is another, or the l-file is the new one
abbrev pub MakesPartly : List ℕ → List ℕ → Option View → Option View → Type 0
MakesPartly n text old new = Moves (bytes_eq (y_file n)) (λ v. v) old new ⊎ Becomes (l_made n text) old new

-- the y-file and the l-file
abbrev pub is_summary : List ℕ → List ℕ → Bool
is_summary n k = bytes_eq (y_file n) k || bytes_eq (l_file n) k

-- from a calm disk on, a stop leaves every s-file and p-file, and the disk is calm
abbrev pub LosesNothing : Told → Told → Type 0
LosesNothing old new = (m : Model) (past : List Model) → old ≡ Tells m past → IsCalm m
    → EndsBefore (view_of m) m past new

-- It fails only where the disk did, or for want of memory.
pub record FileCauses {T : Type 0} (faults faults_after : ℕ) (result : Result T StepFault) : Type 0 where
  pub later : faults ≤ faults_after
  pub cause : result ≡ Err DiskFault → Rose faults faults_after
  pub read : result ≢ Err ReadFault
  pub write : result ≢ Err WriteFault
  pub checks : (refusal : Refusal) → result ≢ Err (Refused refusal)
