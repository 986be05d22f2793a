use Rattle.std.proofs.Common.{rules, Ok, Err, refl, sym, subst, [], IfSome}
use Rattle.sccs_base.specs.Constants.{file_limit}
use Rattle.sccs_base.specs.declared.streams.TakeFault.{TakeFault}
use Rattle.sccs_base.specs.declared.streams.TakeFault.TheVariants as take
use Rattle.sccs_operands.specs.InputNames.{GivesLines}
use Rattle.sccs_steps.specs.Actions.{IsHeard, kind_steps}
use Rattle.sccs_steps.specs.Settings.{setting}
use Rattle.sccs_steps.specs.declared.faults.Fault.TheVariants as end
use Rattle.sccs_steps.specs.declared.operands.OperandKind.TheVariants as kind
use Rattle.sccs_steps.proofs.KindLaws.{input_makes, input_stops, long_makes, long_speaks, long_stops, never_begun}
use Rattle.sccs_steps.proofs.KindLaws.{never_stops, none_spoken, some_given}
use Rattle.sccs_steps.proofs.RecoveringSteps.{input_recovers, long_recovers, never_recovers}
use Rattle.sccs_steps.proofs.UnlockedSteps.{input_unlocked, none_unlocked}
use Rattle.sccs_steps.proofs.operands.run_input.Goals as goal

pub returns-in-Ok-clause-run : goal.returns-in-Ok-clause-run
returns-in-Ok-clause-run g c =
    let told : IfSome (g.I.Source.left c.args.streams.now.input.now) (λ bytes. GivesLines file_limit bytes
    (Ok c.items.result.now)) =
    subst (λ lines. IfSome (g.I.Source.left c.args.streams.now.input.now) (λ bytes. GivesLines file_limit bytes
    (Ok lines))) (sym c.items.ensures) c.in-Ok.ensures.told in
    record {
      steps =
          input_makes (g.U.UtilityWithStatus.action c.args.utility.now) c.items.result.now c.run_lines.result
          (g.I.Source.left c.args.streams.now.input.now) (g.I.Source.left c.read_names.new.input)
          (setting g.I.Source g.O.Sink g.E.Sink g.D.Disk c.args.streams.now).stage
          (setting g.I.Source g.O.Sink g.E.Sink g.D.Disk c.run_lines.new.streams).stage c.requires told
          c.run_lines.ensures.run.steps;
      stops =
          input_stops (g.U.UtilityWithStatus.action c.args.utility.now) c.items.result.now c.run_lines.result
          (g.I.Source.left c.args.streams.now.input.now) (g.I.Source.left c.read_names.new.input)
          (setting g.I.Source g.O.Sink g.E.Sink g.D.Disk c.args.streams.now).stage
          (setting g.I.Source g.O.Sink g.E.Sink g.D.Disk c.run_lines.new.streams).stage c.requires told
          c.run_lines.ensures.run.stops;
      unlocked = input_unlocked (g.U.UtilityWithStatus.action c.args.utility.now) c.items.result.now
          (g.I.Source.left c.args.streams.now.input.now) (g.I.Source.left c.read_names.new.input) _ _ c.requires told
          c.run_lines.ensures.run.unlocked;
      recovers = input_recovers (g.U.UtilityWithStatus.action c.args.utility.now) c.items.result.now c.run_lines.result
          (g.I.Source.left c.args.streams.now.input.now) (g.I.Source.left c.read_names.new.input) _ _ c.requires told
          c.run_lines.ensures.run.recovers;
      speaks = c.run_lines.ensures.run.speaks;
      reads = search rules;
      silent = search rules;
      ignores = λ never. absurd (cc);
      causes = search rules;
    }

pub returns-in-Err-TooLong-clause-run : goal.returns-in-Err-TooLong-clause-run
returns-in-Err-TooLong-clause-run g c =
    let told : IfSome (g.I.Source.left c.args.streams.now.input.now) (λ bytes. GivesLines file_limit bytes
    (Err take.TooLong)) =
    subst (λ (fault : TakeFault). IfSome (g.I.Source.left c.args.streams.now.input.now)
    (λ bytes. GivesLines file_limit bytes (Err fault))) c.in-Err-TooLong.field-0-is c.in-Err-TooLong.ensures.told in
    record {
      steps = long_makes (g.U.UtilityWithStatus.action c.args.utility.now) c.refuse.result
          (g.I.Source.left c.args.streams.now.input.now) (setting g.I.Source g.O.Sink g.E.Sink g.D.Disk
          c.args.streams.now).stage (g.E.Sink.given c.refuse.new.err) told c.refuse.ensures.says;
      stops = long_stops (g.U.UtilityWithStatus.action c.args.utility.now) c.refuse.result
          (g.I.Source.left c.args.streams.now.input.now) (setting g.I.Source g.O.Sink g.E.Sink g.D.Disk
          c.args.streams.now).stage (g.E.Sink.given c.refuse.new.err) told c.refuse.ensures.says;
      unlocked = none_unlocked (g.U.UtilityWithStatus.action c.args.utility.now)
          (λ m i. kind_steps (g.U.UtilityWithStatus.action c.args.utility.now) i m [] kind.FromInput)
          (IsHeard _ (g.I.Source.left c.args.streams.now.input.now)) _ _ refl;
      recovers = long_recovers (g.U.UtilityWithStatus.action c.args.utility.now) c.refuse.result
          (g.I.Source.left c.args.streams.now.input.now) _ told;
      speaks = long_speaks (g.U.UtilityWithStatus.action c.args.utility.now) c.refuse.result _ _ c.refuse.ensures.says;
      reads = search rules;
      silent = search rules;
      ignores = λ never. absurd (cc);
      causes = search rules;
    }

pub returns-in-Err-Failed-clause-run : goal.returns-in-Err-Failed-clause-run
returns-in-Err-Failed-clause-run g c = record {
  steps =
      never_begun (g.U.UtilityWithStatus.action c.args.utility.now)
      (λ m i. kind_steps (g.U.UtilityWithStatus.action c.args.utility.now) i m [] kind.FromInput)
      (IsHeard _ (g.I.Source.left c.args.streams.now.input.now)) end.ReadFault
      (g.D.Disk.told c.args.streams.now.disk.now) (g.D.Disk.told c.args.streams.now.disk.now)
      (g.O.Sink.given c.args.streams.now.out.now) (g.E.Sink.given c.args.streams.now.err.now)
      (some_given (g.U.UtilityWithStatus.action c.args.utility.now)) refl;
  stops =
      never_stops (g.U.UtilityWithStatus.action c.args.utility.now)
      (λ m i. kind_steps (g.U.UtilityWithStatus.action c.args.utility.now) i m [] kind.FromInput)
      (IsHeard _ (g.I.Source.left c.args.streams.now.input.now)) end.ReadFault
      (g.D.Disk.told c.args.streams.now.disk.now) (g.D.Disk.told c.args.streams.now.disk.now)
      (g.O.Sink.given c.args.streams.now.out.now) (g.E.Sink.given c.args.streams.now.err.now) refl;
  unlocked = none_unlocked (g.U.UtilityWithStatus.action c.args.utility.now)
      (λ m i. kind_steps (g.U.UtilityWithStatus.action c.args.utility.now) i m [] kind.FromInput)
      (IsHeard _ (g.I.Source.left c.args.streams.now.input.now)) _ _ refl;
  recovers = never_recovers (g.U.UtilityWithStatus.action c.args.utility.now)
      (λ m i. kind_steps (g.U.UtilityWithStatus.action c.args.utility.now) i m [] kind.FromInput)
      (IsHeard _ (g.I.Source.left c.args.streams.now.input.now)) end.ReadFault _ _ refl;
  speaks = none_spoken (g.U.UtilityWithStatus.action c.args.utility.now) kind.FromInput [] end.ReadFault
      (g.E.Sink.given c.args.streams.now.err.now);
  reads = search rules;
  silent = search rules;
  ignores = λ never. absurd (cc);
  causes = search rules;
}

pub returns-in-Err-Memory-clause-run : goal.returns-in-Err-Memory-clause-run
returns-in-Err-Memory-clause-run g c = record {
  steps =
      never_begun (g.U.UtilityWithStatus.action c.args.utility.now)
      (λ m i. kind_steps (g.U.UtilityWithStatus.action c.args.utility.now) i m [] kind.FromInput)
      (IsHeard _ (g.I.Source.left c.args.streams.now.input.now)) end.Memory
      (g.D.Disk.told c.args.streams.now.disk.now) (g.D.Disk.told c.args.streams.now.disk.now)
      (g.O.Sink.given c.args.streams.now.out.now) (g.E.Sink.given c.args.streams.now.err.now)
      (some_given (g.U.UtilityWithStatus.action c.args.utility.now)) refl;
  stops =
      never_stops (g.U.UtilityWithStatus.action c.args.utility.now)
      (λ m i. kind_steps (g.U.UtilityWithStatus.action c.args.utility.now) i m [] kind.FromInput)
      (IsHeard _ (g.I.Source.left c.args.streams.now.input.now)) end.Memory
      (g.D.Disk.told c.args.streams.now.disk.now) (g.D.Disk.told c.args.streams.now.disk.now)
      (g.O.Sink.given c.args.streams.now.out.now) (g.E.Sink.given c.args.streams.now.err.now) refl;
  unlocked = none_unlocked (g.U.UtilityWithStatus.action c.args.utility.now)
      (λ m i. kind_steps (g.U.UtilityWithStatus.action c.args.utility.now) i m [] kind.FromInput)
      (IsHeard _ (g.I.Source.left c.args.streams.now.input.now)) _ _ refl;
  recovers = never_recovers (g.U.UtilityWithStatus.action c.args.utility.now)
      (λ m i. kind_steps (g.U.UtilityWithStatus.action c.args.utility.now) i m [] kind.FromInput)
      (IsHeard _ (g.I.Source.left c.args.streams.now.input.now)) end.Memory _ _ refl;
  speaks = none_spoken (g.U.UtilityWithStatus.action c.args.utility.now) kind.FromInput [] end.Memory
      (g.E.Sink.given c.args.streams.now.err.now);
  reads = search rules;
  silent = search rules;
  ignores = λ never. absurd (cc);
  causes = search rules;
}
