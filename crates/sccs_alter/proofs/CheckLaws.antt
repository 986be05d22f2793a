-- What the checks of admin -h make of its step.
use Rattle.std.proofs.Common.{◌≡◌, ℕ, false, List, Option, None, Some, Result, Ok, Err, refl, sym, ap, subst}
use Rattle.std.specs.Prelude.{IfSome}
use Rattle.sccs_base.proofs.Gifts.{gives_none, some_none}
use Rattle.sccs_disk.specs.Files.{View}
use Rattle.sccs_disk.specs.Told.{Told, seen}
use Rattle.sccs_sid.specs.declared.refusals.Refusal.{Refusal}
use Rattle.sccs_sid.specs.declared.refusals.StepFault.{StepFault}
use Rattle.sccs_sid.specs.declared.refusals.StepFault.TheVariants.{Refused, Memory, ReadFault, WriteFault, DiskFault}
use Rattle.sccs_grammar.specs.File.{Parsed, answer, file_of}
use Rattle.sccs_grammar.specs.FileRefusals.{file_fault, or_none, or_refusal, refusal_of}
use Rattle.sccs_grammar.specs.declared.faults.FileFault.{FileFault}
use Rattle.sccs_grammar.specs.declared.faults.FileFault.TheVariants as faults
use Rattle.sccs_table.specs.FrontFile.{Refuses}
use Rattle.sccs_table.specs.ReaderState.{file_in}
use Rattle.sccs_table.specs.declared.fronts.Front.{Front}
use Rattle.sccs_body.specs.BodyFile.{AnswersFile}
use Rattle.sccs_name_files.specs.StepFiles.{Moves, is_working, look}
use Rattle.sccs_changes.specs.Pending.{bytes_at}
use Rattle.sccs_steps.specs.Calls.{Meets, scene, world}
use Rattle.sccs_steps.specs.Actions.{IsHeard, RefusesWithin, SpeaksBy, Stepped}
use Rattle.sccs_steps.proofs.ReadingSteps.{Explains, ends_silent, same_cleared}
use Rattle.sccs_alter.specs.CheckStep.{Checks, check_action, check_checks, check_outcome, checked_file, no_effect}

-- ---- the file

refused_at : (bytes : Option (List ℕ)) (fault : FileFault) → answer file_of bytes ≡ Err fault
    → or_refusal (answer file_of bytes) ≡ Err (or_none (refusal_of fault))
refused_at bytes fault is = ap (λ (r : Result Parsed FileFault). or_refusal r) is

refuses_at : (bytes : Option (List ℕ)) (fault : FileFault) → Refuses fault (answer file_of bytes)
    → Checks (or_refusal (answer file_of bytes)) (Err (file_fault fault))
refuses_at bytes faults.Missing read = refused_at bytes faults.Missing read
refuses_at bytes faults.TooLong read = refused_at bytes faults.TooLong read
refuses_at bytes faults.NotSccs read = refused_at bytes faults.NotSccs read
refuses_at bytes (faults.BadSum stored sum) read = refused_at bytes (faults.BadSum stored sum) read
refuses_at bytes (faults.BadFormat line) read = refused_at bytes (faults.BadFormat line) read
refuses_at bytes faults.Encoded read = refused_at bytes faults.Encoded read
refuses_at bytes (faults.Changed a b c d) read = absurd read
refuses_at bytes faults.Failed read = tt
refuses_at bytes faults.Memory read = tt

pub file_checked : (n : List ℕ) (o : Option View) (front : Front) → IfSome o (λ v. AnswersFile (file_in v n) (Ok front))
    → IfSome o (λ (v : View). Checks (checked_file (v n)) (Ok tt))
file_checked n None front answers = tt
file_checked n (Some v) front answers = (answers.0, ap (λ (r : Result Parsed FileFault). or_refusal r) answers.1)

pub file_refused : (n : List ℕ) (o : Option View) (fault : FileFault) (ended : StepFault) → ended ≡ file_fault fault
    → IfSome o (λ v. AnswersFile (file_in v n) (Err fault)) → IfSome o (λ (v : View). Checks (checked_file (v n))
    (Err ended))
file_refused n None fault ended is answers = tt
file_refused n (Some v) fault ended is answers = subst (λ e. Checks (checked_file (v n)) (Err e)) (sym is)
    (refuses_at (bytes_at (v n)) fault answers)

-- ---- the step

why : (file : Result Parsed Refusal) (fault : StepFault) → Checks file (Err fault) → Explains (check_outcome file) fault
why file (Refused refusal) checks = ap check_outcome checks
why file Memory checks = tt
why file DiskFault checks = tt
why file ReadFault checks = checks
why file WriteFault checks = checks

made : (file : Result Parsed Refusal) (n : List ℕ) (v : View) (o2 : Option View) (out err : Option (List ℕ))
    → o2 ≡ Some v → Checks file (Ok tt) → Meets (λ (done : Unit {0}). 0) (Ok tt) n (check_outcome file)
    (world (Some v) out err) (world o2 out err)
made file n v o2 out err same checks = (
  no_effect,
  ap check_outcome checks.1,
  refl,
  record {
    view = subst (λ (t : Option View). Moves (is_working n) (λ u. u) (Some v) t) (sym same) (λ k h. refl);
    cleared = same_cleared v o2 n same;
    out = gives_none out;
    err = gives_none err;
  },
)

ends : (file : Result Parsed Refusal) (r : Result (Unit {0}) StepFault) (n : List ℕ) (v : View) (o2 : Option View)
    (out err : Option (List ℕ)) → o2 ≡ Some v → Checks file r → Meets (λ (done : Unit {0}). 0) r n (check_outcome file)
    (world (Some v) out err) (world o2 out err)
ends file (Ok done) n v o2 out err same checks = made file n v o2 out err same checks
ends file (Err fault) n v o2 out err same checks = ends_silent v o2 n (check_outcome file) fault out err same
    (why file fault checks)

pub checked_steps : (r : Result (Unit {0}) StepFault) (n : List ℕ) (a b : Told) (left out err : Option (List ℕ)) → b ≡ a
    → IfSome (seen a) (λ (v : View). Checks (checked_file (v n)) r) → Stepped check_action r n left (scene a out err)
    (scene b out err)
checked_steps r n a b left out err same checks = by (seen a) (ap seen same) checks
  where
    by : (o : Option View) → seen b ≡ o → IfSome o (λ (v : View). Checks (checked_file (v n)) r)
        → IfSome o (λ (v : View). (i : List ℕ) → IsHeard false left i → Meets (λ (done : Unit {0}). 0) r n
        (check_outcome (checked_file (look v n).s)) (world o out err) (world (seen b) out err))
    by None is checks = tt
    by (Some v) is checks = λ i heard. ends (checked_file (v n)) r n v (seen b) out err is checks

-- ---- over any disk

pub checked_speaks : (r : Result (Unit {0}) StepFault) (n : List ℕ) (err : Option (List ℕ))
    → RefusesWithin check_checks r → SpeaksBy check_action.could r n err err
checked_speaks (Ok done) n err within = (Ok no_effect, refl, (no_effect, refl, refl, gives_none err))
checked_speaks (Err (Refused refusal)) n err within = (Err refusal, within refusal refl, (refl, refl))
checked_speaks (Err Memory) n err within = (Ok no_effect, refl, some_none err _)
checked_speaks (Err ReadFault) n err within = (Ok no_effect, refl, some_none err _)
checked_speaks (Err WriteFault) n err within = (Ok no_effect, refl, some_none err _)
checked_speaks (Err DiskFault) n err within = (Ok no_effect, refl, some_none err _)
