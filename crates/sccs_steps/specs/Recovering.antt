-- Steps that don't lock their names: they may begin on any disk whose s-files and p-files are firm, as a disk fault
-- leaves it.
use Rattle.std.specs.Prelude.{◌≡◌, ◌≢◌, ℕ, ◌==◌, Bool, true, false, ◌&&◌, ◌||◌, List, [], ◌∷◌, OnOk, Result, Err, IsOk}
use Rattle.sccs_base.specs.Name.{is_sfile_name}
use Rattle.sccs_disk.specs.Files.{Folder, view_in}
use Rattle.sccs_disk.specs.Told.{Told, seen}
use Rattle.sccs_name_files.specs.StepFiles.{Shows}
use Rattle.sccs_crash_points.specs.CrashPoints.{KeepsCalm, LeavesCalm, LeavesFirm, RecoversOn}
use Rattle.sccs_sid.specs.declared.refusals.StepFault.{StepFault}
use Rattle.sccs_sid.specs.declared.refusals.StepFault.TheVariants as step
use Rattle.sccs_steps.specs.Actions.{Action, AreClear}
use Rattle.sccs_steps.specs.ListStops.{Spares}
use Rattle.sccs_steps.specs.StepLists.{NamedStep}
use Rattle.sccs_steps.specs.declared.faults.Fault.{Fault}
use Rattle.sccs_steps.specs.declared.faults.Fault.TheVariants as end

-- What the call of a step leaves of such a disk.
pub record RecoversStep {X : Type 0} (r : Result X StepFault) (old new : Told) : Type 0 where
  -- a stop leaves what recovers as a folder that one could leave at the start
  pub story : RecoversOn old new
  -- s-files and p-files are firm still, so that recovery may run again
  pub firm : LeavesFirm old new
  -- at Ok the disk is calm
  pub calm : OnOk r (LeavesCalm old new)
  -- but at a disk fault a calm disk stays calm
  pub keeps : r ≢ Err step.DiskFault → KeepsCalm old new

-- the same of a step, where it doesn't lock its name
abbrev pub StepRecovers : {X : Type 0} → Action → Result X StepFault → Told → Told → Type 0
StepRecovers x r old new = x.locks ≡ false → RecoversStep r old new

-- some step of an s-file's name is made, and not refused
abbrev pub has_made : List NamedStep → Bool
has_made [] = false
has_made (t ∷ ts) = (is_sfile_name t.name && t.effect.status == 0) || has_made ts

-- What a call leaves of such a disk that makes steps; at Ok the disk is calm where some step is made.
pub record RecoversSteps (x : Action) (steps : Folder → List ℕ → List NamedStep) (given : List ℕ → Type 0)
    (r : Result ℕ Fault) (old new : Told) : Type 0 where
  pub story : RecoversOn old new
  pub firm : LeavesFirm old new
  pub calm : IsOk r → (w : List ℕ → Bool) (folder : Folder) (i : List ℕ)
      → Spares w → AreClear x w (steps folder i) → Shows w (seen old) (view_in folder) → given i
      → has_made (steps folder i) ≡ true → LeavesCalm old new
  pub keeps : r ≢ Err end.DiskFault → KeepsCalm old new

-- the same, where the steps don't lock their names
abbrev pub RecoversBy : Action → (Folder → List ℕ → List NamedStep) → (List ℕ → Type 0) → Result ℕ Fault → Told → Told
    → Type 0
RecoversBy x steps given r old new = x.locks ≡ false → RecoversSteps x steps given r old new
