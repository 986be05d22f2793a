use Rattle.sccs_group_tests.proofs.TwoMembers.{two_pushed}
use Rattle.sccs_group_tests.proofs.tests.groups.two_members.Goals as goal

pub returns-clause-are : goal.returns-clause-are
returns-clause-are c = two_pushed _ _ _ _ _ c.empty-members.ensures c.in_ok-push.ensures.ok c.in_ok-push-2.ensures.ok
    c.in-Some.ensures.found c.in-Some-read.ensures.found
