use Rattle.std.proofs.Common.{◌≤◌, ◌<◌, ◌+◌, ◌-◌}
use Rattle.sccs_step_lists.specs.QuietSettings.{quiet}
use Rattle.sccs_soak.specs.Commands.{rounds_from}
use Rattle.sccs_soak.specs.Runs.{LeadsSoak}
use Rattle.sccs_soak.proofs.running.run_rounds.Given as goal

-- however the rounds from here on are done, all of them are done so
abbrev pub invariant-rounds : goal.invariant-rounds
invariant-rounds g l = record {
  leads : LeadsSoak (g.C.Commands.command l.commands) (g.C.Commands.fits l.commands) (g.C.Commands.whole l.commands)
      (g.C.Commands.begun l.commands) l.number (rounds_from l.number 1 l.number 0)
      (quiet g.O.Sink g.E.Sink g.D.Disk l.fn.out l.fn.err l.fn.disk) (rounds_from (l.number + 1 - l.round) l.round
      l.draws.state l.lines) (quiet g.O.Sink g.E.Sink g.D.Disk l.out l.err l.disk);
  least : 1 ≤ l.round;
  most : l.round ≤ l.number + 1;
  within : l.draws.state < 2147483648;
  few : l.lines < l.round;
}

abbrev pub decreases-rounds : goal.decreases-rounds
decreases-rounds g l = l.number + 1 - l.round
