use Rattle.std.proofs.Common.{rules, [], ◌∷◌, codes, refl}
use Rattle.sccs_sid.specs.Refusal.{number_of}
use Rattle.sccs_sid.specs.declared.refusals.Refusal.TheVariants as refusals
use Rattle.sccs_steps.specs.Actions.{IsHeard}
use Rattle.sccs_steps.proofs.NameLaws.{step_speaks}
use Rattle.sccs_steps.proofs.ReadingCrashPoints.{quiet_speaks}
use Rattle.sccs_steps.proofs.UnlockedSteps.{none_unlocked}
use Rattle.sccs_val.specs.Reports.{takes_lines}
use Rattle.sccs_val.specs.ValStep.{val_action, val_steps}
use Rattle.sccs_val.proofs.RunLaws.{val_causes, val_makes, val_refuses, val_stops}
use Rattle.sccs_val.proofs.runs.run_val.Goals as goal

pub returns-clause-run : goal.returns-clause-run
returns-clause-run g c =
    let words = c.args.words.now in
    let left = g.I.Source.left c.args.streams.now.input.now in
    record {
      steps = val_makes words c.val-made.result c.conclude.result left _ _ _ _ _ _ c.val-made.ensures.same
          c.val-made.ensures.told c.conclude.ensures.concludes;
      stops = val_stops words c.val-made.result c.conclude.result left _ _ _ _ _ _ c.val-made.ensures.same
          c.val-made.ensures.told c.conclude.ensures.concludes;
      unlocked = none_unlocked (val_action words) (val_steps words) (IsHeard (takes_lines words) left) _ _
          c.val-made.ensures.same;
      recovers = λ never. absurd cc;
      speaks =
          step_speaks (val_action words) (codes "-") (codes "-") c.val-made.result c.conclude.result _ _ _ refl refl
          (quiet_speaks (number_of refusals.TooLong ∷ []) c.val-made.result (codes "-") _
          (val_refuses c.val-made.result left c.val-made.ensures.long)) c.conclude.ensures.concludes;
      reads = λ is. c.val-made.ensures.same;
      silent = λ is. absurd cc;
      ignores = search rules;
      causes =
          val_causes c.val-made.result c.conclude.result _ _ _ _ _ _ _ _ (c.val-made.ensures.causes
          (g.E.Sink.faults c.args.streams.now.err.now)) c.conclude.ensures.later c.conclude.ensures.cause
          c.conclude.ensures.read c.conclude.ensures.broke;
    }
