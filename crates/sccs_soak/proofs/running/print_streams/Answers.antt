use Rattle.sccs_steps.specs.Settings.{setting}
use Rattle.sccs_soak.proofs.SummaryLaws.{summary_runs}
use Rattle.sccs_soak.proofs.running.print_streams.Goals as goal

pub returns-clause-run : goal.returns-clause-run
returns-clause-run g c = summary_runs c.args.number c.run_operand.result (setting g.I.Source g.O.Sink g.E.Sink g.D.Disk
    c.args.streams.now) (setting g.I.Source g.O.Sink g.E.Sink g.D.Disk c.run_operand.new.streams)
    c.run_operand.ensures.run
