-- What recover leaves of any disk on which a group may be finished, be it calm or not, as a disk fault leaves it.
use Rattle.std.specs.Prelude.{◌≡◌, ◌≢◌, ℕ, List, IsOk, Result, Err}
use Rattle.sccs_disk.specs.Files.{Model, view_of}
use Rattle.sccs_disk.specs.Told.{Told, Tells}
use Rattle.sccs_intents.specs.Intents.{intent_file}
use Rattle.sccs_crash_points.specs.Calm.{IsCalm}
use Rattle.sccs_crash_points.specs.CrashPoints.{IsFrom, Went}
use Rattle.sccs_steps.specs.declared.faults.Fault.{Fault}
use Rattle.sccs_steps.specs.declared.faults.Fault.TheVariants as ends
use Rattle.sccs_group.specs.Finishing.{CanFinish}
use Rattle.sccs_group.specs.Recovering.{IsWellFormed}

-- Recovery may begin: what it needs is firm, names of an intent are locked and recovery leaves the pairs that it
-- makes of them, and an intent that is there has its form.
pub record MayRecover (m : Model) : Type 0 where
  pub finish : CanFinish m
  pub form : IsWellFormed (view_of m intent_file)

-- a stop leaves a folder that recovers as one that a stop could leave at the start
abbrev pub RecoversFrom : Told → Told → Type 0
RecoversFrom old new = (m : Model) (past : List Model) → old ≡ Tells m past → MayRecover m
    → Went (λ j w. IsFrom m w) m past 0 new

-- a group may be finished again
abbrev pub LeavesFinishable : Told → Told → Type 0
LeavesFinishable old new = (m : Model) (past : List Model) → old ≡ Tells m past → MayRecover m
    → (m2 : Model) (past2 : List Model) → new ≡ Tells m2 past2 → CanFinish m2

-- the disk is calm
abbrev pub MakesCalm : Told → Told → Type 0
MakesCalm old new = (m : Model) (past : List Model) → old ≡ Tells m past → MayRecover m
    → (m2 : Model) (past2 : List Model) → new ≡ Tells m2 past2 → IsCalm m2

-- a calm disk stays calm
abbrev pub StaysCalm : Told → Told → Type 0
StaysCalm old new = (m : Model) (past : List Model) → old ≡ Tells m past → MayRecover m → IsCalm m
    → (m2 : Model) (past2 : List Model) → new ≡ Tells m2 past2 → IsCalm m2

-- What a call that recovers leaves.
pub record RecoversAll (r : Result ℕ Fault) (old new : Told) : Type 0 where
  pub story : RecoversFrom old new
  pub again : LeavesFinishable old new
  pub calm : IsOk r → MakesCalm old new
  -- but at a disk fault a calm disk stays calm
  pub keeps : r ≢ Err ends.DiskFault → StaysCalm old new
