-- What a get says over any disk, and why it answers a fault.
use Rattle.std.proofs.Common.{◌≡◌, ◌≢◌, ◌⊎◌, ℕ, ◌≤◌, Bool, true, false, not, ◌&&◌, ◌||◌, List, [], ◌++◌, take, Option}
use Rattle.std.proofs.Common.{None, Result, Ok, Err, inl, inr, refl, sym, ap, subst, ◌∙◌, arith}
use Rattle.std.specs.Prelude.{codes, if◌then◌else◌}
use Rattle.std.specs.Str.{bytes_eq}
use Rattle.sccs_base.specs.Stream.{Rose}
use Rattle.sccs_base.proofs.Gifts.{some_none}
use Rattle.sccs_sid.specs.Reading.{is_empty}
use Rattle.sccs_sid.specs.Refusal.{number_of}
use Rattle.sccs_sid.specs.declared.sids.Sid.{Sid}
use Rattle.sccs_sid.specs.declared.sid_lists.Range.{Range}
use Rattle.sccs_sid.specs.declared.refusals.Refusal.{Refusal}
use Rattle.sccs_sid.specs.declared.refusals.StepFault.{StepFault}
use Rattle.sccs_sid.specs.declared.refusals.StepFault.TheVariants.{Refused, Memory, ReadFault, WriteFault, DiskFault}
use Rattle.sccs_disk.specs.Files.{View}
use Rattle.sccs_disk.specs.Told.{Told}
use Rattle.sccs_steps.specs.Actions.{RefusesWithin, SpeaksBy, has_number}
use Rattle.sccs_steps.specs.Calls.{world}
use Rattle.sccs_steps.specs.Causes.{PrintCauses, StepCauses, counts}
use Rattle.sccs_steps.specs.StepEffects.{StepEffect}
use Rattle.sccs_changes.specs.declared.prepared.Prepared.{Prepared}
use Rattle.sccs_changes.proofs.ChangeCauses.{finished_causes}
use Rattle.sccs_changes.specs.PFiles.{OnlyReads}
use Rattle.sccs_changes.specs.Reports.{warning}
use Rattle.sccs_words.specs.declared.commands.GetWords.{GetWords}
use Rattle.sccs_get.specs.Giving.{FinishesGet, GivesUpGet}
use Rattle.sccs_get.specs.Reports.{get_report, get_warning, prints, said_on_err}
use Rattle.sccs_get.specs.VersionStep.{could_get, says_well, version_checks}
use Rattle.sccs_base.proofs.Rises.{rose_later}
use Rattle.sccs_base.proofs.Bools.{or_true}

-- ---- what is said is well said

warned : (n : List ℕ) (k : Bool) → (is_empty (warning n k) || bytes_eq (codes "WARNING [") (take 9 (warning n k)))
    ≡ true
warned n true = refl
warned n false = refl

by_words : (print silent : Bool) (report message : List ℕ) → (silent ≡ true → report ≡ [])
    → (is_empty message || bytes_eq (codes "WARNING [") (take 9 message)) ≡ true
    → ((print && not silent) || (is_empty (if print then report ++ message else message) || bytes_eq (codes "WARNING [")
    (take 9 (if print then report ++ message else message)))) ≡ true
by_words true true report message none well =
    subst (λ r. (is_empty (r ++ message) || bytes_eq (codes "WARNING [") (take 9 (r ++ message))) ≡ true)
    (sym (none refl)) well
by_words true false report message none well = refl
by_words false silent report message none well = well

silent_report : (b : Bool) (rest : List ℕ) → b ≡ true → (if b then [] else rest) ≡ []
silent_report true rest is = refl
silent_report false rest is = absurd cc

pub well_said : (words : GetWords) (heading : Bool) (n : List ℕ) (include exclude : List Range) (got : Sid)
    (made : Option Sid) (lines : ℕ) (keyword : Bool)
    → says_well words (said_on_err words (get_report words heading n include exclude got made lines)
    (get_warning words n keyword)) ≡ true
well_said words heading n include exclude got made lines keyword =
    by_words (prints words) words.silent (get_report words heading n include exclude got made lines)
    (get_warning words n keyword) (λ is. silent_report words.silent _ is) (warned n _)

-- ---- over any disk

abbrev said_so : List ℕ → StepEffect
said_so message = record { new = None; text = []; out = []; err = message; status = 0 }

quiet_so : (words : GetWords) → could_get words (Ok (said_so [])) ≡ true
quiet_so words = or_true (prints words && not words.silent)

pub finished_speaks : (words : GetWords) (n : List ℕ) (p : Prepared) (r : Result (Unit {0}) StepFault)
    (a b : Option View) (out out2 err err2 : Option (List ℕ)) → says_well words p.message ≡ true
    → FinishesGet words n p r (world a out err) (world b out2 err2) → SpeaksBy (could_get words) r n err err2
finished_speaks words n p (Ok done) a b out out2 err err2 well finishes =
    (Ok (said_so p.message), well, (said_so p.message, refl, refl, finishes.1.err))
finished_speaks words n p (Err WriteFault) a b out out2 err err2 well finishes =
    (Ok (said_so p.message), well, finishes.1.err)
finished_speaks words n p (Err DiskFault) a b out out2 err err2 well finishes =
    subst (λ (e : Option (List ℕ)). SpeaksBy (could_get words) (Err DiskFault) n err e) (sym finishes.2)
    (Ok (said_so []), quiet_so words, some_none err [])
finished_speaks words n p (Err (Refused refusal)) a b out out2 err err2 well finishes = absurd finishes
finished_speaks words n p (Err Memory) a b out out2 err err2 well finishes = absurd finishes
finished_speaks words n p (Err ReadFault) a b out out2 err err2 well finishes = absurd finishes

fault_speaks : (words : GetWords) (fault : StepFault) (n : List ℕ) (err : Option (List ℕ))
    → ((refusal : Refusal) → fault ≡ Refused refusal → has_number version_checks (number_of refusal) ≡ true)
    → SpeaksBy (could_get words) (Err fault) n err err
fault_speaks words (Refused refusal) n err within = (Err refusal, within refusal refl, (refl, refl))
fault_speaks words Memory n err within = (Ok (said_so []), quiet_so words, some_none err [])
fault_speaks words ReadFault n err within = (Ok (said_so []), quiet_so words, some_none err [])
fault_speaks words WriteFault n err within = (Ok (said_so []), quiet_so words, some_none err [])
fault_speaks words DiskFault n err within = (Ok (said_so []), quiet_so words, some_none err [])

-- a call that failed changed nothing on err
pub failed_speaks : {X : Type 0} (words : GetWords) (n : List ℕ) (fault : StepFault) (q : Result X StepFault)
    (r : Result (Unit {0}) StepFault) (err : Option (List ℕ)) → q ≡ Err fault → RefusesWithin version_checks q
    → r ≡ Err fault → SpeaksBy (could_get words) r n err err
failed_speaks words n fault q r err was within is =
    subst (λ (s : Result (Unit {0}) StepFault). SpeaksBy (could_get words) s n err err) (sym is)
    (fault_speaks words fault n err (λ refusal same. within refusal (was ∙ ap Err same)))

pub given_up_speaks : {X : Type 0} (words : GetWords) (has_y : Bool) (n : List ℕ) (fault : StepFault)
    (q : Result X StepFault) (r : Result (Unit {0}) StepFault) (a b : Option View) (err : Option (List ℕ))
    → q ≡ Err fault → RefusesWithin version_checks q → GivesUpGet has_y n fault r a b
    → SpeaksBy (could_get words) r n err err
given_up_speaks words has_y n fault q r a b err was within (inl gone) = failed_speaks words n fault q r err was within
    gone.0
given_up_speaks words has_y n fault q r a b err was within (inr broken) =
    subst (λ (s : Result (Unit {0}) StepFault). SpeaksBy (could_get words) s n err err) (sym broken.0)
    (fault_speaks words DiskFault n err (λ refusal is. absurd cc))

-- no check of the summary fails
pub none_within : {X : Type 0} (q : Result X StepFault) → RefusesWithin [] q → RefusesWithin version_checks q
none_within q none = λ refusal is. absurd (let never : false ≡ true = none refusal is in cc)

-- ---- causes

pub as_step : {X : Type 0} (r : Result X StepFault) (i o o2 err d d2 : ℕ) → PrintCauses r o o2 d d2
    → StepCauses r (counts i o err d) (counts i o2 err d2)
as_step r i o o2 err d d2 causes = record {
  input_later = omega arith;
  out_later = causes.out_later;
  err_later = omega arith;
  disk_later = causes.disk_later;
  read = λ is. absurd (causes.read is);
  write = λ is. inl (causes.write is);
  broke = causes.broke;
}

pub ready_finished : (q : Result Prepared StepFault) (r : Result (Unit {0}) StepFault) (i o o2 o3 e e3 d d2 d3 : ℕ)
    → PrintCauses q o o2 d d2 → ((input : ℕ) → StepCauses r (counts input o2 e d2) (counts input o3 e3 d3))
    → StepCauses r (counts i o e d) (counts i o3 e3 d3)
ready_finished q r i o o2 o3 e e3 d d2 d3 first second = finished_causes q r i i o o2 o3 e e3 d d d2 d3 (omega arith)
    (λ err. as_step q i o o2 err d d2 first) second

which : (has_y : Bool) (n : List ℕ) (fault : StepFault) (r : Result (Unit {0}) StepFault) (a b : Option View)
    → GivesUpGet has_y n fault r a b → (r ≡ Err fault) ⊎ (r ≡ Err DiskFault)
which has_y n fault r a b (inl gone) = inl gone.0
which has_y n fault r a b (inr broken) = inr broken.0

fault_of : {X : Type 0} (fault found : StepFault) (q : Result X StepFault) (r : Result (Unit {0}) StepFault)
    → q ≡ Err fault → (r ≡ Err fault) ⊎ (r ≡ Err DiskFault) → found ≢ DiskFault → r ≡ Err found → q ≡ Err found
fault_of fault found q r was (inl is) differ so = was ∙ ap Err (fault_is fault found r is so)
  where
    fault_is : (fault found : StepFault) (r : Result (Unit {0}) StepFault) → r ≡ Err fault → r ≡ Err found
        → fault ≡ found
    fault_is fault found r is so = cc
fault_of fault found q r was (inr is) differ so = absurd (differ cc)

pub given_up_causes : {X : Type 0} (has_y : Bool) (n : List ℕ) (fault : StepFault) (q : Result X StepFault)
    (r : Result (Unit {0}) StepFault) (a b : Option View) (i o o2 e d d2 d3 : ℕ) → q ≡ Err fault
    → GivesUpGet has_y n fault r a b → PrintCauses q o o2 d d2 → d2 ≤ d3
    → (r ≡ Err DiskFault → (fault ≡ DiskFault) × (d3 ≡ d2) ⊎ Rose d2 d3) → StepCauses r (counts i o e d)
    (counts i o2 e d3)
given_up_causes has_y n fault q r a b i o o2 e d d2 d3 was gives first later cause = record {
  input_later = omega arith;
  out_later = first.out_later;
  err_later = omega arith;
  disk_later = omega (arith, first.disk_later, later);
  read = λ is. absurd (first.read (fault_of fault ReadFault q r was (which has_y n fault r a b gives) (λ so. cc) is));
  write = λ is. inl (first.write (fault_of fault WriteFault q r was (which has_y n fault r a b gives) (λ so. cc) is));
  broke = λ is. by (cause is);
}
  where
    by : (fault ≡ DiskFault) × (d3 ≡ d2) ⊎ Rose d2 d3 → Rose d d3
    by (inl same) = subst (λ count. Rose d count) (sym same.1) (first.broke (was ∙ ap Err same.0))
    by (inr rose) = rose_later d d2 d3 first.disk_later rose

-- behind a call that only read
pub read_print : {X : Type 0} (q : Result X StepFault) (o o2 d d1 d2 : ℕ) → d ≤ d1 → PrintCauses q o o2 d1 d2
    → PrintCauses q o o2 d d2
read_print q o o2 d d1 d2 later causes = record {
  out_later = causes.out_later;
  disk_later = omega (arith, later, causes.disk_later);
  write = causes.write;
  read = causes.read;
  broke = λ is. rose_later d d1 d2 later (causes.broke is);
}

-- behind one that printed
pub print_print : {X : Type 0} (q : Result X StepFault) (o o1 o2 d d1 d2 : ℕ) → o ≤ o1 → d ≤ d1
    → PrintCauses q o1 o2 d1 d2 → PrintCauses q o o2 d d2
print_print q o o1 o2 d d1 d2 out later causes = record {
  out_later = omega (arith, out, causes.out_later);
  disk_later = omega (arith, later, causes.disk_later);
  write = λ is. rose_later o o1 o2 out (causes.write is);
  read = causes.read;
  broke = λ is. rose_later d d1 d2 later (causes.broke is);
}

pub read_later : (d d1 d2 : ℕ) → d ≤ d1 → d1 ≤ d2 → d ≤ d2
read_later d d1 d2 first next = omega (arith, first, next)

-- a call that only read failed
pub read_causes : {D T : Type 0} (told : D → Told) (faults : D → ℕ) (disk disk2 : D) (fault : StepFault) (i o e : ℕ)
    → OnlyReads {T = T} told faults disk disk2 (Err fault) → StepCauses {X = Unit {0}} (Err fault)
    (counts i o e (faults disk)) (counts i o e (faults disk2))
read_causes {D} {T} told faults disk disk2 fault i o e only = record {
  input_later = omega arith;
  out_later = omega arith;
  err_later = omega arith;
  disk_later = only.later;
  read = λ is. absurd (only.read (as_other ReadFault is));
  write = λ is. absurd (only.write (as_other WriteFault is));
  broke = λ is. only.cause (as_other DiskFault is);
}
  where
    as_other : (other : StepFault) → ◌≡◌ {A = Result (Unit {0}) StepFault} (Err fault) (Err other)
        → ◌≡◌ {A = Result T StepFault} (Err fault) (Err other)
    as_other other is = cc
