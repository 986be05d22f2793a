use Rattle.sccs_step_lists.specs.QuietSettings.{quiet}
use Rattle.sccs_soak.proofs.SummaryLaws.{summary_never}
use Rattle.sccs_soak.proofs.running.run_summary.Goals as goal

pub returns-in-Err : goal.returns-in-Err
returns-in-Err g c = summary_never c.args.number (quiet g.O.Sink g.E.Sink g.D.Disk c.args.out.now c.args.err.now
    c.args.disk.now)
