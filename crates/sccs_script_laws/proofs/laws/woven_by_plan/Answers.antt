use Rattle.sccs_script_laws.proofs.Plants.{weave_planted}
use Rattle.sccs_script_laws.proofs.laws.woven_by_plan.Goals as goal

pub returns : goal.returns
returns c = λ set n orders lines below. weave_planted n set orders lines below
