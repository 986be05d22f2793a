use Rattle.std.proofs.Common.{sym, subst}
use Rattle.sccs_steps.specs.Settings.{setting}
use Rattle.sccs_words.specs.declared.commands.Command.{Command}
use Rattle.sccs_top.specs.Runs.{RunsCommand, action_of, caller_in, operands_of, val_words_of}
use Rattle.sccs_top.proofs.ListedRuns.{val_runs}
use Rattle.sccs_top.proofs.commands.run_single.Goals as goal

pub returns-in-Get-clause-run : goal.returns-in-Get-clause-run
returns-in-Get-clause-run g c =
    subst (λ (it : Command). RunsCommand (val_words_of it)
    (action_of (caller_in c.args.context.now) it) (operands_of it) c.run_get.result
    (setting g.I.Source g.O.Sink g.E.Sink g.D.Disk c.args.streams.now)
    (setting g.I.Source g.O.Sink g.E.Sink g.D.Disk c.run_get.new.streams)) (sym c.in-Get.is) c.run_get.ensures.run

pub returns-in-Delta-clause-run : goal.returns-in-Delta-clause-run
returns-in-Delta-clause-run g c =
    subst (λ (it : Command). RunsCommand (val_words_of it)
    (action_of (caller_in c.args.context.now) it) (operands_of it) c.run_delta.result
    (setting g.I.Source g.O.Sink g.E.Sink g.D.Disk c.args.streams.now)
    (setting g.I.Source g.O.Sink g.E.Sink g.D.Disk c.run_delta.new.streams)) (sym c.in-Delta.is)
    c.run_delta.ensures.run

pub returns-in-Import-clause-run : goal.returns-in-Import-clause-run
returns-in-Import-clause-run g c =
    subst (λ (it : Command). RunsCommand (val_words_of it)
    (action_of (caller_in c.args.context.now) it) (operands_of it) c.run_import.result
    (setting g.I.Source g.O.Sink g.E.Sink g.D.Disk c.args.streams.now)
    (setting g.I.Source g.O.Sink g.E.Sink g.D.Disk c.run_import.new.streams)) (sym c.in-Import.is)
    c.run_import.ensures.run

pub returns-in-Val-clause-run : goal.returns-in-Val-clause-run
returns-in-Val-clause-run g c = val_runs (caller_in c.args.context.now) c.args.command.now
    c.in-Val.words c.run_val.result (setting g.I.Source g.O.Sink g.E.Sink g.D.Disk c.args.streams.now)
    (setting g.I.Source g.O.Sink g.E.Sink g.D.Disk c.run_val.new.streams) c.in-Val.is c.run_val.ensures.run
