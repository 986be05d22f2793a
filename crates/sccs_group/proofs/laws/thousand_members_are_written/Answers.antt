use Rattle.sccs_group.proofs.Groups.{members_written}
use Rattle.sccs_group.proofs.laws.thousand_members_are_written.Goals as goal

pub returns : goal.returns
returns c = members_written
