use Rattle.sccs_script_laws.proofs.PlanOrder.{plan_in_order}
use Rattle.sccs_script_laws.proofs.laws.plans_in_order.Goals as goal

pub returns : goal.returns
returns c = λ orders count. plan_in_order orders count
