use Rattle.sccs_group.proofs.Groups.{before_then, group_after, group_within}
use Rattle.sccs_group.proofs.laws.groups_are_made_whole.Goals as goal

pub returns-clause-before : goal.returns-clause-before
returns-clause-before c = before_then

pub returns-clause-within : goal.returns-clause-within
returns-clause-within c = group_within

pub returns-clause-after : goal.returns-clause-after
returns-clause-after c = group_after
