-- How the call ends that finishes a group, by what `finish_group` answered.
use Rattle.std.proofs.Common.{◌≡◌, ℕ, Bool, Option, None, Some, IfSome, Result, Ok, Err, inl, inr, refl}
use Rattle.sccs_disk.specs.Causes.{DiskCauses}
use Rattle.sccs_disk.specs.Files.{View}
use Rattle.sccs_disk.specs.Told.{Told}
use Rattle.sccs_intents.specs.Intents.{intent_file}
use Rattle.sccs_sid.specs.declared.refusals.StepFault.{StepFault}
use Rattle.sccs_sid.specs.declared.refusals.StepFault.TheVariants as step
use Rattle.sccs_steps.specs.declared.faults.Fault.TheVariants as ends
use Rattle.sccs_group.specs.Ended.{FinishesGroup, ShowsBad}
use Rattle.sccs_group.specs.Recovering.{IsBad}
use Rattle.sccs_recovery.specs.FinishingEnds.{FinishEnds, status_of}

with_line : (o : Option View) (line : ℕ) → ShowsBad line o → IfSome o (λ (v : View). (l : ℕ) × IsBad (v intent_file) l)
with_line None line bad = tt
with_line (Some v) line bad = (line, bad)

pub finish_ends : (r : Result Bool StepFault) (a b : Told) → FinishesGroup r a b → FinishEnds (status_of r) a b
finish_ends (Ok there) a b ended = (refl, inl ended.0)
finish_ends (Err (step.Refused refusal)) a b ended =
    (refl, inr (record { lost = ended.2; bad = with_line _ ended.0 ended.3 }))
finish_ends (Err step.Memory) a b ended = ended
finish_ends (Err step.DiskFault) a b ended = ended
finish_ends (Err step.ReadFault) a b ended = absurd ended
finish_ends (Err step.WriteFault) a b ended = absurd ended

failed_is : (r : Result Bool StepFault) → status_of r ≡ Err ends.DiskFault → r ≡ Err step.DiskFault
failed_is (Ok there) is = absurd (cc)
failed_is (Err (step.Refused refusal)) is = absurd (cc)
failed_is (Err step.Memory) is = absurd (cc)
failed_is (Err step.ReadFault) is = absurd (cc)
failed_is (Err step.WriteFault) is = absurd (cc)
failed_is (Err step.DiskFault) is = refl

pub finish_causes : (r : Result Bool StepFault) (d d2 : ℕ) → DiskCauses (r ≡ Err step.DiskFault) d d2
    → DiskCauses (status_of r ≡ Err ends.DiskFault) d d2
finish_causes r d d2 causes = record { later = causes.later; cause = λ is. causes.cause (failed_is r is) }
