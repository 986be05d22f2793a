use Rattle.sccs_step_lists.proofs.Portions.{safe_later}
use Rattle.sccs_top.proofs.FollowingLaws.{may_follow, may_recover, stops_followed}
use Rattle.sccs_top.proofs.laws.runs_follow_one_another.Goals as goal

pub returns-clause-ended : goal.returns-clause-ended
returns-clause-ended c = may_follow

pub returns-clause-stopped : goal.returns-clause-stopped
returns-clause-stopped c = stops_followed

pub returns-clause-faulted : goal.returns-clause-faulted
returns-clause-faulted c = may_recover

pub returns-clause-safe : goal.returns-clause-safe
returns-clause-safe c = safe_later
