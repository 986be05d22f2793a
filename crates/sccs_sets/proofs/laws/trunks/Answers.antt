use Rattle.sccs_sets.proofs.Trunks.{newest_of_trunk}
use Rattle.sccs_sets.proofs.laws.trunks.Goals as goal

pub returns : goal.returns
returns c = newest_of_trunk
