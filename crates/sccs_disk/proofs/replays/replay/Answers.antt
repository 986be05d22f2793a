use Rattle.sccs_disk.specs.DirectoryStates.{state_of}
use Rattle.sccs_disk.proofs.CallsAgain.{state_next}
use Rattle.sccs_disk.proofs.replays.replay.Goals as goal

pub loop-entry-preserved : goal.loop-entry-preserved
loop-entry-preserved c =
    state_next (state_of c.args.start.now) (state_of c.loop-entry.directory) _ c.args.log.now c.loop-entry.entry-index
    c.entry-item.result c.loop-entry-test.true c.entry-item.is c.loop-entry.invariant c.in_ok-make_again.ensures
