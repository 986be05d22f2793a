use Rattle.std.proofs.Common.{[], ◌∷◌, cond, codes, sym, subst}
use Rattle.sccs_steps.specs.Running.{RunsOperands}
use Rattle.sccs_steps.specs.Settings.{setting}
use Rattle.sccs_steps.proofs.LoneOperands.{lone_operand}
use Rattle.sccs_top.proofs.commands.run_given.Goals as goal

pub returns-then-operands-clause-run : goal.returns-then-operands-clause-run
returns-then-operands-clause-run g c =
    subst (λ b. RunsOperands (g.U.UtilityWithStatus.action c.args.utility.now)
    (cond b (codes "-" ∷ []) c.args.operands.now.words) c.run_operand.result
    (setting g.I.Source g.O.Sink g.E.Sink g.D.Disk c.args.streams.now)
    (setting g.I.Source g.O.Sink g.E.Sink g.D.Disk c.run_operand.new.streams)) (sym c.if-operands.true)
    (lone_operand (g.U.UtilityWithStatus.action c.args.utility.now) (codes "-") _ _ _ c.run_operand.ensures.run)
