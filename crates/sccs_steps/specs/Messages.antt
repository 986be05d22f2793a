-- How an operand ends whose step was called: a refusal is said.
use Rattle.std.specs.Prelude.{◌≡◌, ℕ, List, Option, Result, Ok, Err}
use Rattle.sccs_base.specs.Stream.{GivesOk, GivesSome}
use Rattle.sccs_sid.specs.Refusal.{refusal_line}
use Rattle.sccs_sid.specs.declared.refusals.Refusal.{Refusal}
use Rattle.sccs_sid.specs.declared.refusals.StepFault.{StepFault}
use Rattle.sccs_sid.specs.declared.refusals.StepFault.TheVariants as step
use Rattle.sccs_steps.specs.declared.faults.Fault.{Fault}
use Rattle.sccs_steps.specs.declared.faults.Fault.TheVariants.{Memory, ReadFault, WriteFault, DiskFault}

-- the line of a refusal was written, and the status is 1; or a prefix of it was
abbrev pub SaysRefusal : List ℕ → Refusal → Result ℕ Fault → Option (List ℕ) → Option (List ℕ) → Type 0
SaysRefusal n refusal (Ok status) err err2 = (status ≡ 1) × GivesOk err err2 (refusal_line n refusal)
SaysRefusal n refusal (Err WriteFault) err err2 = GivesSome err err2 (refusal_line n refusal)
SaysRefusal n refusal (Err fault) err err2 = ⊥

-- nothing was written, and this is the answer
abbrev pub Answers : Result ℕ Fault → Result ℕ Fault → Option (List ℕ) → Option (List ℕ) → Type 0
Answers answer result err err2 = (result ≡ answer) × (err2 ≡ err)

-- a step that is made has its status, a refusal is said, and a fault is that fault
abbrev pub Concludes : Result ℕ StepFault → List ℕ → Result ℕ Fault → Option (List ℕ) → Option (List ℕ) → Type 0
Concludes (Ok status) n result err err2 = Answers (Ok status) result err err2
Concludes (Err (step.Refused refusal)) n result err err2 = SaysRefusal n refusal result err err2
Concludes (Err step.Memory) n result err err2 = Answers (Err Memory) result err err2
Concludes (Err step.ReadFault) n result err err2 = Answers (Err ReadFault) result err err2
Concludes (Err step.WriteFault) n result err err2 = Answers (Err WriteFault) result err err2
Concludes (Err step.DiskFault) n result err err2 = Answers (Err DiskFault) result err err2
