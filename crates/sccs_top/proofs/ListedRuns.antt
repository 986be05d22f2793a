-- The steps of the operands that a command lists are those of the command.
use Rattle.std.proofs.Common.{◌≡◌, ℕ, Bool, true, false, List, [], ◌∷◌, Option, Some, Result, codes, refl, sym, subst}
use Rattle.std.proofs.Common.{◌∙◌}
use Rattle.std.specs.Prelude.{if◌then◌else◌}
use Rattle.std.specs.List.{list_any}
use Rattle.sccs_steps.specs.Actions.{Action, IsHeard, hears, kind_hears, kind_of}
use Rattle.sccs_steps.specs.Running.{IsInput, RunsOperands}
use Rattle.sccs_steps.specs.Settings.{Setting}
use Rattle.sccs_steps.specs.declared.faults.Fault.{Fault}
use Rattle.sccs_words.specs.declared.commands.Command.{Command}
use Rattle.sccs_words.specs.declared.commands.Command.TheVariants as c
use Rattle.sccs_words.specs.declared.commands.ValWords.{ValWords}
use Rattle.sccs_val.specs.Reports.{takes_lines}
use Rattle.sccs_val.specs.ValStep.{RunsVal, val_action, val_operands}
use Rattle.sccs_top.specs.Runs.{Caller, RunsCommand, action_of, operands_of, val_words_of}

pub runs_as : (x y : Action) (listed operands : List (List ℕ)) (r : Result ℕ Fault) (s s2 : Setting) → x ≡ y
    → listed ≡ operands → RunsOperands x listed r s s2 → RunsOperands y operands r s s2
runs_as x y listed operands r s s2 same_action same_operands runs =
    subst (λ (a : Action). RunsOperands a operands r s s2) same_action
    (subst (λ (words : List (List ℕ)). RunsOperands x words r s s2) same_operands runs)

-- ---- a command that lists operands, and val

-- val takes the input where its words say so
hears_by : (takes : Bool) → list_any (λ operand. kind_hears takes (kind_of takes operand)) (if takes then codes "-" ∷ []
    else []) ≡ takes
unfolding kind_of
hears_by true = refl
hears_by false = refl

val_hears : (words : ValWords) → hears (val_action words) (val_operands words) ≡ takes_lines words
val_hears words = hears_by (takes_lines words)

heard : (words : ValWords) (left : Option (List ℕ)) (i : List ℕ) → IsInput (val_action words) (val_operands words) left
    i → IsHeard (takes_lines words) left i
heard words left i given = subst (λ (takes : Bool). IsHeard takes left i) (val_hears words) given.0

val_command : (who : Caller) (words : ValWords) (r : Result ℕ Fault) (s s2 : Setting) → RunsVal words r s s2
    → RunsCommand (Some words) (val_action words) (val_operands words) r s s2
val_command who words r s s2 runs = record {
  steps = λ w folder i spares clear shows given. runs.steps w folder i spares clear shows (heard words s.left i given);
  stops = λ w folder i m past spares clear shows given is may safe. runs.stops w folder i m past spares clear shows
      (heard words s.left i given) is may safe;
  unlocked = λ w folder i spares clear shows given exempt plain are. runs.unlocked w folder i spares clear shows
      (heard words s.left i given) exempt plain are;
  recovers = λ never. absurd cc;
  speaks = runs.speaks;
  reads = runs.reads;
  silent = runs.silent;
  ignores = λ none. runs.ignores (sym (val_hears words) ∙ none);
  causes = runs.causes;
}

pub val_runs : (who : Caller) (command : Command) (words : ValWords) (r : Result ℕ Fault) (s s2 : Setting)
    → command ≡ c.Val words → RunsVal words r s s2
    → RunsCommand (val_words_of command) (action_of who command) (operands_of command) r s s2
val_runs who command words r s s2 is runs =
    subst (λ (it : Command). RunsCommand (val_words_of it) (action_of who it) (operands_of it) r s s2) (sym is)
    (val_command who words r s s2 runs)
