-- How a call that recovers a name ends.
use Rattle.std.specs.Prelude.{◌≡◌, ◌≤◌, ℕ, List, IsErrOf, OnOk, Result, Err}
use Rattle.sccs_base.specs.Stream.{Rose}
use Rattle.sccs_disk.specs.Files.{View}
use Rattle.sccs_disk.specs.Told.{Told, seen}
use Rattle.sccs_name_files.specs.StepFiles.{AreCleared, Moves, MovesPartly, is_left, is_working}
use Rattle.sccs_name_files.specs.Touches.{TouchesOnly}
use Rattle.sccs_crash_points.specs.CrashPoints.{LeavesCalm, LeavesFirm, RecoversOn}
use Rattle.sccs_crash_points.specs.Recovery.{recover_alone}
use Rattle.sccs_crash_points.specs.Unlocked.{KeepsOthers, is_own}
use Rattle.sccs_sid.specs.declared.refusals.Refusal.{Refusal}
use Rattle.sccs_sid.specs.declared.refusals.StepFault.{StepFault}
use Rattle.sccs_sid.specs.declared.refusals.StepFault.TheVariants.{Refused, Memory, DiskFault}
use Rattle.sccs_store.specs.Commits.{Becomes}
use Rattle.sccs_recovery.specs.Checks.{IsWithin, checked, recovers_if}

-- At Ok the name is recovered and the disk is calm. At a refusal nothing has changed, at want of memory the working
-- files alone, and where the disk fails each file is as it was or as recovery would make it. The call may be stopped
-- at any moment and made again, and s-files and p-files stay firm. The files of other names stay as they are at each
-- moment.
pub record RecoversName {T : Type 0} (n : List ℕ) (old new : Told) (faults faults_after : ℕ)
    (result : Result T StepFault) : Type 0 where
  pub view : OnOk result (Becomes (recover_alone n) (seen old) (seen new))
  pub refused : (refusal : Refusal) → result ≡ Err (Refused refusal) → new ≡ old
  pub memory : IsErrOf result Memory → Moves (is_working n) (λ v. v) (seen old) (seen new)
  pub cleared : IsErrOf result Memory → AreCleared n (seen old) (seen new)
  pub touches : IsErrOf result Memory → TouchesOnly (is_working n) old new
  pub others : KeepsOthers (is_own n) old new
  pub partly : IsErrOf result DiskFault → MovesPartly (is_left n) (λ (v : View). recovers_if (checked n v) n v)
      (seen old) (seen new)
  pub story : RecoversOn old new
  pub calm : OnOk result (LeavesCalm old new)
  pub firm : LeavesFirm old new
  pub later : faults ≤ faults_after
  pub cause : IsErrOf result DiskFault → Rose faults faults_after
  pub within : IsWithin result
