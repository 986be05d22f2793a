use Rattle.std.proofs.Common.{◌≡◌, sym, ap, subst, ◌∙◌}
use Rattle.sccs_steps.specs.Actions.{kind_of}
use Rattle.sccs_steps.specs.Running.{RunsKind}
use Rattle.sccs_steps.specs.Settings.{setting}
use Rattle.sccs_steps.specs.declared.operands.OperandKind.{OperandKind}
use Rattle.sccs_steps.specs.declared.operands.OperandKind.TheVariants as kind
use Rattle.sccs_steps.proofs.KindLaws.{name_speaks, never_given, never_here}
use Rattle.sccs_steps.proofs.operands.run_operand.Goals as goal

pub run_here-requires : goal.run_here-requires
run_here-requires g c =
    never_here (g.U.UtilityWithStatus.action c.args.utility.now).takes c.args.operand.now
    (ap (λ takes. kind_of takes c.args.operand.now) (sym c.takes_input.ensures) ∙ sym c.in-Here.ensures)

pub run_input-requires : goal.run_input-requires
run_input-requires g c =
    never_given (g.U.UtilityWithStatus.action c.args.utility.now).takes c.args.operand.now
    (ap (λ takes. kind_of takes c.args.operand.now) (sym c.takes_input.ensures) ∙ sym c.in-FromInput.ensures)

pub returns-in-Named-clause-run : goal.returns-in-Named-clause-run
returns-in-Named-clause-run g c =
    let is : kind.Named ≡ kind_of (g.U.UtilityWithStatus.action c.args.utility.now).takes c.args.operand.now =
    c.in-Named.ensures ∙ ap (λ takes. kind_of takes c.args.operand.now) c.takes_input.ensures in
    subst (λ (k : OperandKind). RunsKind (g.U.UtilityWithStatus.action c.args.utility.now) k c.args.operand.now
    c.run_name.result (setting g.I.Source g.O.Sink g.E.Sink g.D.Disk c.args.streams.now)
    (setting g.I.Source g.O.Sink g.E.Sink g.D.Disk c.run_name.new.streams)) is
    (record {
      steps = c.run_name.ensures.run.steps;
      stops = c.run_name.ensures.run.stops;
      unlocked = c.run_name.ensures.run.unlocked;
      recovers = c.run_name.ensures.run.recovers;
      speaks = name_speaks (g.U.UtilityWithStatus.action c.args.utility.now) c.args.operand.now c.run_name.result _ _
          c.run_name.ensures.run.speaks;
      reads = c.run_name.ensures.run.reads;
      silent = c.run_name.ensures.run.silent;
      ignores = c.run_name.ensures.run.ignores;
      causes = c.run_name.ensures.run.causes;
    })

pub returns-in-Here-clause-run : goal.returns-in-Here-clause-run
returns-in-Here-clause-run g c =
    let is : kind.Here ≡ kind_of (g.U.UtilityWithStatus.action c.args.utility.now).takes c.args.operand.now =
    c.in-Here.ensures ∙ ap (λ takes. kind_of takes c.args.operand.now) c.takes_input.ensures in
    subst (λ (k : OperandKind). RunsKind (g.U.UtilityWithStatus.action c.args.utility.now) k c.args.operand.now
    c.run_here.result (setting g.I.Source g.O.Sink g.E.Sink g.D.Disk c.args.streams.now)
    (setting g.I.Source g.O.Sink g.E.Sink g.D.Disk c.run_here.new.streams)) is c.run_here.ensures.run

pub returns-in-FromInput-clause-run : goal.returns-in-FromInput-clause-run
returns-in-FromInput-clause-run g c =
    let is : kind.FromInput ≡ kind_of (g.U.UtilityWithStatus.action c.args.utility.now).takes c.args.operand.now =
    c.in-FromInput.ensures ∙ ap (λ takes. kind_of takes c.args.operand.now) c.takes_input.ensures in
    subst (λ (k : OperandKind). RunsKind (g.U.UtilityWithStatus.action c.args.utility.now) k c.args.operand.now
    c.run_input.result (setting g.I.Source g.O.Sink g.E.Sink g.D.Disk c.args.streams.now)
    (setting g.I.Source g.O.Sink g.E.Sink g.D.Disk c.run_input.new.streams)) is c.run_input.ensures.run
