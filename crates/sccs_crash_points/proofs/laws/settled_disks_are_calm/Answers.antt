use Rattle.sccs_crash_points.proofs.CalmDisks.{empty_settled, placed_settled, settled_calm}
use Rattle.sccs_crash_points.proofs.laws.settled_disks_are_calm.Goals as goal

pub returns-clause-calm : goal.returns-clause-calm
returns-clause-calm c = settled_calm

pub returns-clause-empty : goal.returns-clause-empty
returns-clause-empty c = empty_settled

pub returns-clause-put : goal.returns-clause-put
returns-clause-put c = placed_settled
