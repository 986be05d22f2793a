use Rattle.sccs_sets.proofs.Ranges.{ranges_named, ranges_rise}
use Rattle.sccs_sets.proofs.laws.ranges.Goals as goal

pub returns-clause-named : goal.returns-clause-named
returns-clause-named c = ranges_named

pub returns-clause-order : goal.returns-clause-order
returns-clause-order c = ranges_rise
