use Rattle.std.proofs.Common.{None, sym, subst}
use Rattle.sccs_steps.specs.Running.{RunsOperands}
use Rattle.sccs_steps.specs.Settings.{setting}
use Rattle.sccs_top.specs.Runs.{hushed, words_in}
use Rattle.sccs_top.proofs.commands.run_list.Goals as goal

pub returns-then-context-clause-run : goal.returns-then-context-clause-run
returns-then-context-clause-run g c =
    subst (λ quiet. RunsOperands (hushed None quiet (g.U.UtilityWithStatus.action c.args.utility.now))
    (words_in c.args.operands.now) c.run_given.result (setting g.I.Source g.O.Sink g.E.Sink g.D.Disk
    c.args.streams.now) (setting g.I.Source g.O.Sink g.E.Sink g.D.Disk c.run_given.new.streams))
    (sym c.if-context.true) c.run_given.ensures.run
