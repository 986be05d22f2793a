use Rattle.std.proofs.Common.{None, sym, subst}
use Rattle.sccs_base.specs.NameSets.{names_in}
use Rattle.sccs_recovery.specs.RecoverStep.{freed_by, recover_action}
use Rattle.sccs_steps.specs.Running.{RunsOperands}
use Rattle.sccs_steps.specs.Settings.{setting}
use Rattle.sccs_words.specs.declared.commands.Command.{Command}
use Rattle.sccs_top.specs.Runs.{hushed, operands_of}
use Rattle.sccs_top.proofs.commands.run_freed.Goals as goal

pub returns-clause-run : goal.returns-clause-run
returns-clause-run g c =
    subst (λ (it : Command). RunsOperands (hushed None c.args.context.now.quiet
    (recover_action (freed_by (names_in c.args.freed.now)))) (operands_of it) c.run_ordinary.result
    (setting g.I.Source g.O.Sink g.E.Sink g.D.Disk c.args.streams.now)
    (setting g.I.Source g.O.Sink g.E.Sink g.D.Disk c.run_ordinary.new.streams)) (sym c.in-Recover.is)
    c.run_ordinary.ensures.run
