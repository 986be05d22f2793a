use Rattle.sccs_delta.proofs.LongerBases.{fits_longer, plan_longer}
use Rattle.sccs_delta.proofs.PlanResults.{plan_applied}
use Rattle.sccs_delta.proofs.laws.results_by_plan.Goals as goal

pub returns : goal.returns
returns c = record { result = plan_applied; fits = fits_longer; longer = plan_longer }
