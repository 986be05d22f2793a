-- How the call ends that finishes a group, and what it leaves.
use Rattle.std.specs.Prelude.{◌≡◌, ◌⊎◌, ℕ, Bool, List, [], ◌∷◌, IfSome, Result, Ok, Err}
use Rattle.sccs_disk.specs.Files.{View}
use Rattle.sccs_disk.specs.Told.{Told, seen}
use Rattle.sccs_intents.specs.Intents.{intent_file}
use Rattle.sccs_crash_points.specs.Unlocked.{KeepsOthers}
use Rattle.sccs_sid.specs.declared.refusals.StepFault.{StepFault}
use Rattle.sccs_sid.specs.declared.refusals.StepFault.TheVariants as step
use Rattle.sccs_steps.specs.StepLists.{NamedStep}
use Rattle.sccs_steps.specs.declared.faults.Fault.{Fault}
use Rattle.sccs_steps.specs.declared.faults.Fault.TheVariants.{Memory, ReadFault, WriteFault, DiskFault}
use Rattle.sccs_group.specs.Ended.{IsCutOff, IsFinished, LosesPlan}
use Rattle.sccs_group.specs.Halfway.{intended, is_own_of_group}
use Rattle.sccs_group.specs.Recovering.{IsBad}
use Rattle.sccs_recovery.specs.FinishStep.{finishing_step}

-- An intent is there that isn't of its form, and stays.
pub record IsLeft (old new : Told) : Type 0 where
  pub lost : LosesPlan old new
  pub bad : IfSome (seen old) (λ (v : View). (line : ℕ) × IsBad (v intent_file) line)

-- an intent that isn't of its form is left to the names
abbrev pub status_of : Result Bool StepFault → Result ℕ Fault
status_of (Ok there) = Ok 0
status_of (Err (step.Refused refusal)) = Ok 0
status_of (Err step.Memory) = Err Memory
status_of (Err step.ReadFault) = Err ReadFault
status_of (Err step.WriteFault) = Err WriteFault
status_of (Err step.DiskFault) = Err DiskFault

-- how the call ends
abbrev pub FinishEnds : Result ℕ Fault → Told → Told → Type 0
FinishEnds (Ok status) old new = (status ≡ 0) × (IsFinished old new ⊎ IsLeft old new)
FinishEnds (Err Memory) old new = LosesPlan old new
FinishEnds (Err DiskFault) old new = IsCutOff old new
FinishEnds (Err ReadFault) old new = ⊥
FinishEnds (Err WriteFault) old new = ⊥

-- the files of names that the intent doesn't name stay
abbrev pub FinishOthers : Told → Told → Type 0
FinishOthers old new = IfSome (seen old) (λ (v : View). KeepsOthers (is_own_of_group (intended v)) old new)

-- over any disk a finishing step says nothing
abbrev pub WholeFinishing : ℕ → List NamedStep → Type 0
WholeFinishing status ts = (status ≡ 0) × ((v : View) × (ts ≡ finishing_step v ∷ []))

abbrev pub BegunFinishing : List NamedStep → Type 0
BegunFinishing ts = (v : View) × (ts ≡ finishing_step v ∷ [])
