use Rattle.sccs_top.proofs.FollowingLaws.{begins, calm_from}
use Rattle.sccs_top.proofs.laws.calm_disks_begin_runs.Goals as goal

pub returns-clause-begins : goal.returns-clause-begins
returns-clause-begins c = begins

pub returns-clause-calm : goal.returns-clause-calm
returns-clause-calm c = calm_from
