use Rattle.sccs_crash_points.proofs.Recovering.{at_name}
use Rattle.sccs_crash_points.proofs.laws.names_recover_one_by_one.Goals as goal

pub returns : goal.returns
returns c = λ n v w j u sfile same at. at_name n v w sfile same j u at
