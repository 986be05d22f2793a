use Rattle.sccs_group.proofs.Ready.{whole_placed}
use Rattle.sccs_group.proofs.laws.whole_groups_are_placed.Goals as goal

pub returns : goal.returns
returns c = whole_placed
