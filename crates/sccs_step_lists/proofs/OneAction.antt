-- The steps of one action are a list of steps of one portion.
use Rattle.std.proofs.Common.{ℕ, Bool, List, Option, Result, Ok, Err}
use Rattle.sccs_disk.specs.Files.{Folder}
use Rattle.sccs_steps.specs.Actions.{Action}
use Rattle.sccs_steps.specs.Calls.{World, shown}
use Rattle.sccs_steps.specs.Running.{RunsSteps, Steps}
use Rattle.sccs_steps.specs.Settings.{Setting}
use Rattle.sccs_steps.specs.Speaking.{SpeakBy}
use Rattle.sccs_steps.specs.StepLists.{NamedStep, Runs, status_of}
use Rattle.sccs_steps.specs.declared.faults.Fault.{Fault}
use Rattle.sccs_steps.specs.declared.statuses.StatusRule.{StatusRule}
use Rattle.sccs_step_lists.specs.StepLists.{TakesSfiles, portion_of}
use Rattle.sccs_step_lists.specs.Following.{RunsStepList, RunsTo, SpeaksTo, WholeBy}
use Rattle.sccs_step_lists.proofs.StepListCrashPointLaws.{step_list_crash_points}

runs_to : (rule : StatusRule) (w : List ℕ → Bool) (r : Result ℕ Fault) (m : Folder) (ts : List NamedStep) (a b : World)
    → Runs rule w r m ts a b → RunsTo (status_of rule ts) w r m ts a b
runs_to rule w (Ok status) m ts a b runs = runs
runs_to rule w (Err fault) m ts a b runs = runs

speaks_to : (rule : StatusRule) (whole begun : List NamedStep → Type 0) (r : Result ℕ Fault) (a b : Option (List ℕ))
    → SpeakBy rule whole begun r a b → SpeaksTo (WholeBy rule whole) begun r a b
speaks_to rule whole begun (Ok status) a b says = (says.0, (says.1, says.2.0), says.2.1)
speaks_to rule whole begun (Err fault) a b says = says

pub steps_step_list : (x : Action) (made : Steps) (given : List ℕ → Type 0) (whole begun : List NamedStep → Type 0)
    (hearing : Bool) (r : Result ℕ Fault) (s t : Setting) → TakesSfiles x
    → RunsSteps x made given (SpeakBy x.rule whole begun) hearing r s t → RunsStepList (portion_of x made) given
    (WholeBy x.rule whole) begun r s t
steps_step_list x made given whole begun hearing r s t takes runs = record {
  some = λ folder i heard. λ e. absurd cc;
  takes = λ folder i. (takes, tt);
  steps = λ w folder i spares clear shows known heard. runs_to x.rule w r folder (made folder i) (shown s.stage)
      (shown t.stage) (runs.steps w folder i spares clear.0.names shows heard);
  stops = λ w folder i m past spares clear shows heard told may safe.
      let run = runs.stops w folder i m past spares clear.0.names shows heard told may safe.0 in
      step_list_crash_points w r folder (made folder i) s.stage t.stage m past run.list run.keeps run.images;
  unlocked = λ w folder i spares clear shows known heard exempt plain freed. runs.unlocked w folder i spares
      clear.0.names shows heard exempt plain.0 freed.0;
  speaks = speaks_to x.rule whole begun r s.stage.err t.stage.err runs.speaks;
  causes = runs.causes;
}
