use Rattle.sccs_trunks.proofs.Tallies.{run_added}
use Rattle.sccs_trunks.proofs.counts.add_run.Goals as goal

pub returns : goal.returns
returns c =
    run_added c.args.run.now.inserter c.args.run.now.deleter c.args.run.now.lines.now c.args.tallies.now.items
    c.add.new.tallies.items c.add-2.new.tallies.items
    c.in_ok-add.ensures c.in_ok-add-2.ensures
