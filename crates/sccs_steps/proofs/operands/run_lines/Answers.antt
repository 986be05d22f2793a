use Rattle.std.proofs.Common.{rules, Ok, refl, ◌∙◌, []}
use Rattle.std.specs.List.{filter}
use Rattle.sccs_steps.specs.Actions.{IsHeard, input_steps}
use Rattle.sccs_steps.specs.Settings.{setting}
use Rattle.sccs_steps.specs.declared.faults.Fault.TheVariants as end
use Rattle.sccs_steps.specs.declared.operands.OperandKind.TheVariants as kind
use Rattle.sccs_steps.proofs.KindLaws.{lines_make, lines_speak, lines_stop, never_begun, never_stops, none_spoken}
use Rattle.sccs_steps.proofs.KindLaws.{some_lines}
use Rattle.sccs_steps.proofs.RecoveringSteps.{lines_recover, never_recovers}
use Rattle.sccs_steps.proofs.UnlockedSteps.{lines_unlocked, none_unlocked}
use Rattle.sccs_steps.proofs.operands.run_lines.Goals as goal

pub returns-in-Ok-clause-run : goal.returns-in-Ok-clause-run
returns-in-Ok-clause-run g c = record {
  steps =
      lines_make (g.U.UtilityWithStatus.action c.args.utility.now) c.args.lines.now c.items.result.now
      c.run_names.result (g.I.Source.left c.args.streams.now.input.now)
      (setting g.I.Source g.O.Sink g.E.Sink g.D.Disk c.args.streams.now).stage
      (setting g.I.Source g.O.Sink g.E.Sink g.D.Disk c.run_names.new.streams).stage c.requires (c.items.ensures
      ∙ c.in-Ok.ensures) c.run_names.ensures.run.steps;
  stops =
      lines_stop (g.U.UtilityWithStatus.action c.args.utility.now) c.args.lines.now c.items.result.now
      c.run_names.result (g.I.Source.left c.args.streams.now.input.now)
      (setting g.I.Source g.O.Sink g.E.Sink g.D.Disk c.args.streams.now).stage
      (setting g.I.Source g.O.Sink g.E.Sink g.D.Disk c.run_names.new.streams).stage c.requires (c.items.ensures
      ∙ c.in-Ok.ensures) c.run_names.ensures.run.stops;
  unlocked = lines_unlocked (g.U.UtilityWithStatus.action c.args.utility.now) c.args.lines.now c.items.result.now
      (g.I.Source.left c.args.streams.now.input.now) _ _ c.requires (c.items.ensures ∙ c.in-Ok.ensures)
      c.run_names.ensures.run.unlocked;
  recovers = lines_recover (g.U.UtilityWithStatus.action c.args.utility.now) c.args.lines.now c.items.result.now
      c.run_names.result (g.I.Source.left c.args.streams.now.input.now) _ _ c.requires (c.items.ensures
      ∙ c.in-Ok.ensures) c.run_names.ensures.run.recovers;
  speaks = lines_speak (g.U.UtilityWithStatus.action c.args.utility.now) c.args.lines.now c.items.result.now
      c.run_names.result _ _ (c.items.ensures ∙ c.in-Ok.ensures) c.run_names.ensures.run.speaks;
  reads = search rules;
  silent = search rules;
  ignores = search rules;
  causes = search rules;
}

pub returns-in-Err-clause-run : goal.returns-in-Err-clause-run
returns-in-Err-clause-run g c = record {
  steps =
      never_begun (g.U.UtilityWithStatus.action c.args.utility.now)
      (λ m i. input_steps (g.U.UtilityWithStatus.action c.args.utility.now) i m
      (Ok (filter (g.U.UtilityWithStatus.action c.args.utility.now).fits c.args.lines.now)))
      (IsHeard _ (g.I.Source.left c.args.streams.now.input.now)) end.Memory
      (g.D.Disk.told c.args.streams.now.disk.now) (g.D.Disk.told c.args.streams.now.disk.now)
      (g.O.Sink.given c.args.streams.now.out.now) (g.E.Sink.given c.args.streams.now.err.now)
      (some_lines (g.U.UtilityWithStatus.action c.args.utility.now) c.args.lines.now) refl;
  stops =
      never_stops (g.U.UtilityWithStatus.action c.args.utility.now)
      (λ m i. input_steps (g.U.UtilityWithStatus.action c.args.utility.now) i m
      (Ok (filter (g.U.UtilityWithStatus.action c.args.utility.now).fits c.args.lines.now)))
      (IsHeard _ (g.I.Source.left c.args.streams.now.input.now)) end.Memory
      (g.D.Disk.told c.args.streams.now.disk.now) (g.D.Disk.told c.args.streams.now.disk.now)
      (g.O.Sink.given c.args.streams.now.out.now) (g.E.Sink.given c.args.streams.now.err.now)
      refl;
  unlocked = none_unlocked (g.U.UtilityWithStatus.action c.args.utility.now)
      (λ m i. input_steps (g.U.UtilityWithStatus.action c.args.utility.now) i m
      (Ok (filter (g.U.UtilityWithStatus.action c.args.utility.now).fits c.args.lines.now)))
      (IsHeard _ (g.I.Source.left c.args.streams.now.input.now)) _ _ refl;
  recovers = never_recovers (g.U.UtilityWithStatus.action c.args.utility.now)
      (λ m i. input_steps (g.U.UtilityWithStatus.action c.args.utility.now) i m
      (Ok (filter (g.U.UtilityWithStatus.action c.args.utility.now).fits c.args.lines.now)))
      (IsHeard _ (g.I.Source.left c.args.streams.now.input.now)) end.Memory _ _ refl;
  speaks = none_spoken (g.U.UtilityWithStatus.action c.args.utility.now) kind.FromInput [] end.Memory
      (g.E.Sink.given c.args.streams.now.err.now);
  reads = search rules;
  silent = search rules;
  ignores = search rules;
  causes = search rules;
}
