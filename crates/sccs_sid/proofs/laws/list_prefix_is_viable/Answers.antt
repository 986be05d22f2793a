use Rattle.sccs_sid.proofs.ListPlaces.{can_follow}
use Rattle.sccs_sid.proofs.laws.list_prefix_is_viable.Goals as goal

pub returns : goal.returns
returns c = can_follow
