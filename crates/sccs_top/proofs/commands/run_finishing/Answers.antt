use Rattle.std.proofs.lemmas.Result.{err_from_is_err_and}
use Rattle.sccs_base.specs.NameSets.{names_in}
use Rattle.sccs_recovery.specs.RecoverStep.{freed_by}
use Rattle.sccs_steps.specs.Settings.{setting}
use Rattle.sccs_top.specs.Runs.{caller_in}
use Rattle.sccs_top.proofs.FinishedRuns.{both_leaves, cut_leaves, cut_runs, finished_runs}
use Rattle.sccs_top.proofs.commands.run_finishing.Goals as goal

pub returns-clause-run : goal.returns-clause-run
returns-clause-run g c =
    finished_runs (caller_in c.args.context.now) c.args.command.now c.finish.new.freed
    c.in_ok-finish.field-0 c.run_freed.result (setting g.I.Source g.O.Sink g.E.Sink g.D.Disk c.args.streams.now)
    (setting g.I.Source g.O.Sink g.E.Sink g.D.Disk c.finish.new.streams)
    (setting g.I.Source g.O.Sink g.E.Sink g.D.Disk c.run_freed.new.streams)
    c.requires.finishes c.in_ok-finish.ensures.left c.in_ok-finish.ensures.run c.in_ok-finish.ensures.freed
    c.run_freed.ensures.run

pub returns-clause-leaves : goal.returns-clause-leaves
returns-clause-leaves g c =
    both_leaves (caller_in c.args.context.now) c.args.command.now
    (freed_by (names_in c.finish.new.freed)) c.in_ok-finish.field-0 c.run_freed.result
    (setting g.I.Source g.O.Sink g.E.Sink g.D.Disk c.args.streams.now)
    (setting g.I.Source g.O.Sink g.E.Sink g.D.Disk c.finish.new.streams)
    (setting g.I.Source g.O.Sink g.E.Sink g.D.Disk c.run_freed.new.streams)
    c.requires.finishes c.in_ok-finish.ensures.left c.in_ok-finish.ensures.heard c.in_ok-finish.ensures.ends
    c.run_freed.ensures.run

pub returns-in_err-finish-clause-run : goal.returns-in_err-finish-clause-run
returns-in_err-finish-clause-run g c =
    let p = err_from_is_err_and c.from_residual.result c.from_residual.ensures.1 in
    rw (p.1, p.2) (cut_runs (caller_in c.args.context.now) c.args.command.now c.in_err-finish.field-0.0
    (setting g.I.Source g.O.Sink g.E.Sink g.D.Disk c.args.streams.now)
    (setting g.I.Source g.O.Sink g.E.Sink g.D.Disk c.finish.new.streams)
    c.requires.finishes c.in_err-finish.ensures.run)

pub returns-in_err-finish-clause-leaves : goal.returns-in_err-finish-clause-leaves
returns-in_err-finish-clause-leaves g c =
    let p = err_from_is_err_and c.from_residual.result c.from_residual.ensures.1 in
    rw (p.1, p.2) (cut_leaves (caller_in c.args.context.now) c.args.command.now c.in_err-finish.field-0.0
    (setting g.I.Source g.O.Sink g.E.Sink g.D.Disk c.args.streams.now)
    (setting g.I.Source g.O.Sink g.E.Sink g.D.Disk c.finish.new.streams)
    c.requires.finishes c.in_err-finish.ensures.left c.in_err-finish.ensures.heard c.in_err-finish.ensures.ends)
