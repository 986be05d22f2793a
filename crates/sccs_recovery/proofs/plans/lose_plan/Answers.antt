use Rattle.sccs_recovery.proofs.FreedNames.{plan_cut, plan_lost, plan_others}
use Rattle.sccs_recovery.proofs.plans.lose_plan.Goals as goal

pub returns-in-Ok-clause-ends : goal.returns-in-Ok-clause-ends
returns-in-Ok-clause-ends g c = plan_lost c.plan_name.result _ _ c.plan_name.ensures c.clear.ensures.touches
    c.in-Ok.ensures.view

pub returns-in-Err-clause-ends : goal.returns-in-Err-clause-ends
returns-in-Err-clause-ends g c = plan_cut c.plan_name.result _ _ c.plan_name.ensures c.clear.ensures.call
    c.in-Err.ensures.view_err

pub returns-in-Ok-clause-others : goal.returns-in-Ok-clause-others
returns-in-Ok-clause-others g c = plan_others c.plan_name.result _ _ c.plan_name.ensures c.clear.ensures.call

pub returns-in-Err-clause-others : goal.returns-in-Err-clause-others
returns-in-Err-clause-others g c = plan_others c.plan_name.result _ _ c.plan_name.ensures c.clear.ensures.call
