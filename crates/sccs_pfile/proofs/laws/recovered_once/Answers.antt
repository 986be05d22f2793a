use Rattle.sccs_pfile.proofs.Recovering.{twice_once}
use Rattle.sccs_pfile.proofs.laws.recovered_once.Goals as goal

pub returns : goal.returns
returns c = twice_once
