-- Why a group answers a fault.
use Rattle.std.proofs.Common.{◌≡◌, ◌⊎◌, ◌≤◌, ℕ, List, Option, Result, Err, inl, inr, sym, ◌∙◌, arith}
use Rattle.sccs_base.specs.Stream.{Rose}
use Rattle.sccs_sid.specs.declared.refusals.StepFault.{StepFault}
use Rattle.sccs_sid.specs.declared.refusals.StepFault.TheVariants.{Memory, ReadFault, WriteFault, DiskFault}
use Rattle.sccs_disk.specs.Files.{View}
use Rattle.sccs_steps.specs.Causes.{StepCauses, counts}
use Rattle.sccs_changes.specs.PFiles.{ChangesDisk}
use Rattle.sccs_group_command.specs.Preparing.{GivesAllBack}
use Rattle.sccs_group_command.proofs.Turns.{other_fault, which}

-- memory was wanting, and entries are given up
pub back_causes : {T : Type 0} (q : Result T StepFault) (r : StepFault) (names : List (List ℕ)) (o o2 : Option View)
    (out err d d2 : ℕ) → q ≡ Err r → d ≤ d2 → (r ≡ DiskFault → ((Memory ≡ DiskFault) × (d2 ≡ d)) ⊎ Rose d d2)
    → GivesAllBack r Memory names o o2
    → StepCauses q (counts 0 out err d) (counts 0 out err d2)
back_causes {T} q r names o o2 out err d d2 is low cause gives = record {
  input_later = omega arith;
  out_later = omega arith;
  err_later = omega arith;
  disk_later = low;
  read = λ found. absurd (other_fault r Memory ReadFault (which r Memory names o o2 gives) (λ f. cc) (λ f. cc)
      (same ReadFault found));
  write = λ found. absurd (other_fault r Memory WriteFault (which r Memory names o o2 gives) (λ f. cc) (λ f. cc)
      (same WriteFault found));
  broke = λ found. by (cause (same DiskFault found));
}
  where
    same : (f : StepFault) → q ≡ Err f → r ≡ f
    same f found = let one = sym is ∙ found in cc

    by : ((Memory ≡ DiskFault) × (d2 ≡ d)) ⊎ Rose d d2 → Rose d d2
    by (inl never) = absurd (let e = never.0 in cc)
    by (inr rose) = rose

-- the commit failed
pub commit_causes : {T X D : Type 0} (faults : D → ℕ) (a b : D) (q : Result T StepFault) (r : Result X StepFault)
    (fault : StepFault) (out err : ℕ) → q ≡ Err fault → r ≡ Err fault → ChangesDisk faults a b q
    → StepCauses r (counts 0 out err (faults a)) (counts 0 out err (faults b))
commit_causes {T} {X} {D} faults a b q r fault out err was is changes = record {
  input_later = omega arith;
  out_later = omega arith;
  err_later = omega arith;
  disk_later = changes.later;
  read = λ found. absurd (changes.read (same ReadFault found));
  write = λ found. absurd (changes.write (same WriteFault found));
  broke = λ found. changes.cause (same DiskFault found);
}
  where
    same : (f : StepFault) → r ≡ Err f → q ≡ Err f
    same f found = cc

-- ---- the whole
