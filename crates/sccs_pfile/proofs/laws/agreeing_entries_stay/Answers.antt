use Rattle.sccs_pfile.proofs.Recovering.{nothing_drops}
use Rattle.sccs_pfile.proofs.laws.agreeing_entries_stay.Goals as goal

pub returns : goal.returns
returns c = nothing_drops
