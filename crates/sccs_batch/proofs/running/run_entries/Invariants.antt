use Rattle.std.proofs.Common.{◌≤◌, ◌+◌, ◌-◌, drop, length}
use Rattle.sccs_step_lists.specs.QuietSettings.{quiet}
use Rattle.sccs_batch.specs.BatchText.{batch_of}
use Rattle.sccs_batch.specs.Batches.{ReachesLines}
use Rattle.sccs_batch.proofs.running.run_entries.Given as goal

-- however the lines from here on are run, all of them are run so
abbrev pub invariant-entries : goal.invariant-entries
invariant-entries g l = record {
  leads : ReachesLines (g.C.Commands.command l.commands) (g.C.Commands.fits l.commands) (g.C.Commands.whole l.commands)
      (g.C.Commands.begun l.commands) (batch_of l.lines) (l.at + 1) (drop l.at l.lines)
      (quiet g.O.Sink g.E.Sink g.D.Disk l.fn.out l.fn.err l.fn.disk) (quiet g.O.Sink g.E.Sink g.D.Disk l.out l.err
      l.disk);
  within : l.at ≤ length l.lines;
}

abbrev pub decreases-entries : goal.decreases-entries
decreases-entries g l = length l.lines - l.at
