use Rattle.sccs_sets.proofs.NewSids.{made_is_free}
use Rattle.sccs_sets.proofs.laws.made_sids.Goals as goal

pub returns : goal.returns
returns c = made_is_free
