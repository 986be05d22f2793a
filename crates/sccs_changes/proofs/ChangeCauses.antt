-- Why a change answers a fault, and what may come of it over any disk.
use Rattle.std.proofs.Common.{◌≡◌, ◌≢◌, ◌⊎◌, ℕ, ◌≤◌, Bool, true, List, Option, Result, Err, inl, inr, refl, sym, ap}
use Rattle.std.proofs.Common.{subst, ◌∙◌, arith}
use Rattle.sccs_base.specs.Stream.{Rose}
use Rattle.sccs_base.proofs.Gifts.{some_none}
use Rattle.sccs_sid.specs.declared.refusals.Refusal.{Refusal}
use Rattle.sccs_sid.specs.declared.refusals.Refusal.TheVariants as refusals
use Rattle.sccs_sid.specs.declared.refusals.StepFault.{StepFault}
use Rattle.sccs_sid.specs.declared.refusals.StepFault.TheVariants.{Refused, Memory, ReadFault, WriteFault, DiskFault}
use Rattle.sccs_steps.specs.Causes.{Ignores, StepCauses, counts}
use Rattle.sccs_steps.specs.StepEffects.{Outcome}
use Rattle.sccs_steps.specs.Actions.{SpeaksBy}
use Rattle.sccs_steps.specs.Calls.{World}
use Rattle.sccs_changes.specs.Changes.{CouldPrepare}
use Rattle.sccs_changes.specs.Ends.{GivesUp}
use Rattle.sccs_changes.specs.declared.prepared.Prepared.{Prepared}
use Rattle.sccs_base.proofs.Rises.{rose_later, never_rose}

-- a report after a commit
pub finish_causes : {X : Type 0} (r : Result X StepFault) (o o2 e e2 d d2 : ℕ) → d ≤ d2
    → ((input disk : ℕ) → StepCauses r (counts input o e disk) (counts input o2 e2 disk)) → (input : ℕ)
    → StepCauses r (counts input o e d) (counts input o2 e2 d2)
finish_causes r o o2 e e2 d d2 later causes = λ input. record {
  input_later = omega arith;
  out_later = (causes 0 0).out_later;
  err_later = (causes 0 0).err_later;
  disk_later = later;
  read = λ is. absurd (never_rose ((causes 0 0).read is));
  write = (causes 0 0).write;
  broke = λ is. absurd (never_rose ((causes 0 0).broke is));
}

either_before : (o o2 o3 e e3 : ℕ) → o ≤ o2 → Rose o2 o3 ⊎ Rose e e3 → Rose o o3 ⊎ Rose e e3
either_before o o2 o3 e e3 low (inl rose) = inl (rose_later o o2 o3 low rose)
either_before o o2 o3 e e3 low (inr rose) = inr rose

-- preparing, and a commit with its report
pub finished_causes : {X : Type 0} (q : Result Prepared StepFault) (r : Result X StepFault)
    (i i2 o o2 o3 e e3 d d1 d2 d3 : ℕ) → d ≤ d1 → ((err : ℕ) → StepCauses q (counts i o err d1) (counts i2 o2 err d2))
    → ((input : ℕ) → StepCauses r (counts input o2 e d2) (counts input o3 e3 d3))
    → StepCauses r (counts i o e d) (counts i2 o3 e3 d3)
finished_causes q r i i2 o o2 o3 e e3 d d1 d2 d3 low first second = record {
  input_later = (first e).input_later;
  out_later = omega (arith, (first e).out_later, (second 0).out_later);
  err_later = (second 0).err_later;
  disk_later = omega (arith, low, (first e).disk_later, (second 0).disk_later);
  read = λ is. absurd (never_rose ((second 0).read is));
  write = λ is. either_before o o2 o3 e e3 (first e).out_later ((second 0).write is);
  broke = λ is. rose_later d d2 d3 (omega (arith, low, (first e).disk_later)) ((second 0).broke is);
}

other_fault : {X : Type 0} (fault : StepFault) (r : Result X StepFault) → r ≡ Err DiskFault → fault ≢ DiskFault
    → r ≢ Err fault
other_fault fault r is differ so = differ cc

the_fault : {X : Type 0} (fault found : StepFault) (r : Result X StepFault) (q : Result Prepared StepFault)
    → q ≡ Err fault → r ≡ Err fault → r ≡ Err found → q ≡ Err found
the_fault fault found r q was is so = cc

gave_fault : {X : Type 0} (fault found : StepFault) (r : Result X StepFault) (q : Result Prepared StepFault)
    (P : Type 0) → q ≡ Err fault → ((r ≡ Err fault) ⊎ (r ≡ Err DiskFault)) → found ≢ DiskFault → (q ≡ Err found → P)
    → r ≡ Err found → P
gave_fault fault found r q P was (inl is) differ cause so = cause (the_fault fault found r q was is so)
gave_fault fault found r q P was (inr is) differ cause so = absurd (other_fault found r is differ so)

which : (r : Result (Unit {0}) StepFault) (fault : StepFault) (n : List ℕ) (w w2 : World) → GivesUp r fault n w w2
    → (r ≡ Err fault) ⊎ (r ≡ Err DiskFault)
which r fault n w w2 (inl gone) = inl gone.0
which r fault n w w2 (inr broken) = inr broken.0

-- preparing, and giving up
pub given_up_causes : (fault : StepFault) (q : Result Prepared StepFault) (r : Result (Unit {0}) StepFault) (n : List ℕ)
    (w w2 : World) (i i2 o o2 e d d1 d2 d3 : ℕ) → q ≡ Err fault → GivesUp r fault n w w2 → d ≤ d1
    → ((err : ℕ) → StepCauses q (counts i o err d1) (counts i2 o2 err d2)) → d2 ≤ d3
    → (r ≡ Err DiskFault → (fault ≡ DiskFault) × (d3 ≡ d2) ⊎ Rose d2 d3) → StepCauses r (counts i o e d)
    (counts i2 o2 e d3)
given_up_causes fault q r n w w2 i i2 o o2 e d d1 d2 d3 was gives_up low first later cause = record {
  input_later = (first e).input_later;
  out_later = (first e).out_later;
  err_later = omega arith;
  disk_later = omega (arith, low, (first e).disk_later, later);
  read = gave_fault fault ReadFault r q (Rose i i2) was (which r fault n w w2 gives_up) (λ is. cc)
      (λ is. (first e).read is);
  write = gave_fault fault WriteFault r q (Rose o o2 ⊎ Rose e e) was (which r fault n w w2 gives_up) (λ is. cc)
      (λ is. (first e).write is);
  broke = λ is. by (cause is);
}
  where
    by : (fault ≡ DiskFault) × (d3 ≡ d2) ⊎ Rose d2 d3 → Rose d d3
    by (inl same) = subst (λ count. Rose d count) (sym same.1)
        (rose_later d d1 d2 low ((first e).broke (was ∙ ap Err same.0)))
    by (inr rose) = rose_later d d2 d3 (omega (arith, low, (first e).disk_later)) rose

-- the input is left alone
pub given_up_ignores : (fault : StepFault) (q : Result Prepared StepFault) (r : Result (Unit {0}) StepFault)
    (n : List ℕ) (w w2 : World) (left left2 : Option (List ℕ)) (i i2 : ℕ) → q ≡ Err fault → GivesUp r fault n w w2
    → Ignores ReadFault left left2 i i2 q → Ignores ReadFault left left2 i i2 r
given_up_ignores fault q r n w w2 left left2 i i2 was gives_up ignores = record {
  same = ignores.same;
  quiet = ignores.quiet;
  cause = gave_fault fault ReadFault r q ⊥ was (which r fault n w w2 gives_up) (λ is. cc) ignores.cause;
}

-- ---- over any disk

-- nothing is written on err, whatever cut the step short
silent_fault : (could : Outcome → Bool) (fault : StepFault) (n : List ℕ) (err : Option (List ℕ))
    → could (Err refusals.Locked) ≡ true → ((refusal : Refusal) → fault ≡ Refused refusal → could (Err refusal) ≡ true)
    → SpeaksBy could (Err fault) n err err
silent_fault could (Refused refusal) n err locked refused = (Err refusal, refused refusal refl, (refl, refl))
silent_fault could Memory n err locked refused = (Err refusals.Locked, locked, some_none err _)
silent_fault could ReadFault n err locked refused = (Err refusals.Locked, locked, some_none err _)
silent_fault could WriteFault n err locked refused = (Err refusals.Locked, locked, some_none err _)
silent_fault could DiskFault n err locked refused = (Err refusals.Locked, locked, some_none err _)

pub fault_speaks : (could : Outcome → Bool) (fault : StepFault) (n : List ℕ) (err : Option (List ℕ))
    → could (Err refusals.Locked) ≡ true → ((refusal : Refusal) → fault ≡ Refused refusal → could (Err refusal) ≡ true)
    → SpeaksBy could (Err fault) n err err
fault_speaks could fault n err locked refused = silent_fault could fault n err locked refused

refused_by : (could : Outcome → Bool) (fault : StepFault) (q : Result Prepared StepFault) → q ≡ Err fault
    → CouldPrepare could q → (refusal : Refusal) → fault ≡ Refused refusal → could (Err refusal) ≡ true
refused_by could fault q was speaks refusal is = subst (λ (p : Result Prepared StepFault). CouldPrepare could p) (was
    ∙ ap Err is) speaks

pub given_up_speaks : (could : Outcome → Bool) (fault : StepFault) (q : Result Prepared StepFault)
    (r : Result (Unit {0}) StepFault) (n : List ℕ) (w w2 : World) (err : Option (List ℕ)) → could (Err refusals.Locked)
    ≡ true → q ≡ Err fault → CouldPrepare could q → GivesUp r fault n w w2 → SpeaksBy could r n err err
given_up_speaks could fault q r n w w2 err locked was speaks gives_up = by (which r fault n w w2 gives_up)
  where
    by : (r ≡ Err fault) ⊎ (r ≡ Err DiskFault) → SpeaksBy could r n err err
    by (inl is) = subst (λ (s : Result (Unit {0}) StepFault). SpeaksBy could s n err err) (sym is)
        (silent_fault could fault n err locked (refused_by could fault q was speaks))
    by (inr is) = subst (λ (s : Result (Unit {0}) StepFault). SpeaksBy could s n err err) (sym is)
        (silent_fault could DiskFault n err locked (λ refusal same. absurd cc))
