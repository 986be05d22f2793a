use Rattle.sccs_group.proofs.Groups.{views_recover}
use Rattle.sccs_group.proofs.laws.groups_recover_as_their_views.Goals as goal

pub returns : goal.returns
returns c = views_recover
