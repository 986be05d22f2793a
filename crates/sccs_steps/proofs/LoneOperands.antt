-- An operand by itself is a list of one.
use Rattle.std.proofs.Common.{◌≡◌, ℕ, true, List, [], ◌∷◌, Option, Result, Ok, Err, inr, refl, sym, subst, ◌∙◌}
use Rattle.std.proofs.lemmas.List.{append-nil}
use Rattle.sccs_disk.specs.Files.{Folder, view_in}
use Rattle.sccs_steps.specs.Actions.{Action, AreClear, IsHeard, hears, kind_hears, kind_of, operand_steps, steps_at}
use Rattle.sccs_steps.specs.Calls.{shown}
use Rattle.sccs_steps.specs.ListStops.{AreSafe, RunCrashPoints}
use Rattle.sccs_steps.specs.Running.{RunsOperand, RunsOperands}
use Rattle.sccs_steps.specs.Recovering.{has_made}
use Rattle.sccs_steps.specs.Settings.{Setting}
use Rattle.sccs_steps.specs.Speaking.{OperandBegins, OperandMakes, SpeakAll, SpeakBy}
use Rattle.sccs_steps.specs.StepLists.{NamedStep, Runs}
use Rattle.sccs_steps.specs.Unlocked.{AreExempt, ArePlain}
use Rattle.sccs_steps.specs.declared.faults.Fault.{Fault}
use Rattle.sccs_base.proofs.Bools.{or_none}

alone : (x : Action) (m : Folder) (i operand : List ℕ) → steps_at x m i (operand ∷ []) ≡ operand_steps x i m operand
alone x m i operand = append-nil (operand_steps x i m operand)

hears_one : (x : Action) (operand : List ℕ) → hears x (operand ∷ []) ≡ kind_hears x.takes (kind_of x.takes operand)
hears_one x operand = or_none (kind_hears x.takes (kind_of x.takes operand))

speaks_one : (x : Action) (operand : List ℕ) (r : Result ℕ Fault) (err err2 : Option (List ℕ))
    → SpeakBy x.rule (OperandMakes x operand) (OperandBegins x operand) r err err2
    → SpeakAll x (operand ∷ []) r err err2
speaks_one x operand (Ok status) err err2 says = (says.0, (says.0, [], sym (append-nil says.0), says.1, refl), says.2)
speaks_one x operand (Err fault) err err2 says = (
  says.0,
  inr ([], operand, [], [], says.0, refl, refl, refl, says.1),
  says.2,
)

pub lone_operand : (x : Action) (operand : List ℕ) (r : Result ℕ Fault) (s t : Setting) → RunsOperand x operand r s t
    → RunsOperands x (operand ∷ []) r s t
lone_operand x operand r s t runs = record {
  steps = λ w m i spares clear shows given.
      subst (λ (ts : List NamedStep). Runs x.rule w r m ts (shown s.stage) (shown t.stage)) (sym (alone x m i operand))
      (runs.steps w m i spares (subst (λ (ts : List NamedStep). AreClear x w ts) (alone x m i operand) clear) shows
      (subst (λ hearing. IsHeard hearing s.left i) (hears_one x operand) given.0));
  stops = λ w folder i m past spares clear shows given is calm safe.
      subst (λ (ts : List NamedStep). RunCrashPoints x w r folder ts s.stage t.stage m past)
      (sym (alone x folder i operand))
      (runs.stops w folder i m past spares (subst (λ (ts : List NamedStep). AreClear x w ts) (alone x folder i operand)
      clear) shows (subst (λ hearing. IsHeard hearing s.left i) (hears_one x operand) given.0) is calm
      (subst (λ (ts : List NamedStep). AreSafe x ts (view_in folder)) (alone x folder i operand) safe));
  unlocked = λ w folder i spares clear shows given exempt plain are.
      runs.unlocked w folder i spares (subst (λ (ts : List NamedStep). AreClear x w ts) (alone x folder i operand)
      clear) shows (subst (λ hearing. IsHeard hearing s.left i) (hears_one x operand) given.0) exempt
      (subst (λ (ts : List NamedStep). ArePlain x ts) (alone x folder i operand) plain)
      (subst (λ (ts : List NamedStep). AreExempt x exempt ts) (alone x folder i operand) are);
  recovers = λ never. record {
    story = (runs.recovers never).story;
    firm = (runs.recovers never).firm;
    calm = λ ok w folder i spares clear shows given made.
        (runs.recovers never).calm ok w folder i spares (subst (λ (ts : List NamedStep). AreClear x w ts)
        (alone x folder i operand) clear) shows (subst (λ hearing. IsHeard hearing s.left i) (hears_one x operand)
        given.0)
        (subst (λ (ts : List NamedStep). has_made ts ≡ true) (alone x folder i operand) made);
    keeps = (runs.recovers never).keeps;
  };
  speaks = speaks_one x operand r s.stage.err t.stage.err runs.speaks;
  reads = runs.reads;
  silent = runs.silent;
  ignores = λ none. runs.ignores (sym (hears_one x operand) ∙ none);
  causes = runs.causes;
}
