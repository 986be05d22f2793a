use Rattle.std.proofs.Common.{◌≡◌, Result, Ok, Err, IfOk, sym, subst, ap, ◌∙◌}
use Rattle.sccs_script_laws.specs.declared.scripts.Plan.{Plan}
use Rattle.sccs_script_laws.specs.Plans.{IsInOrder, plan}
use Rattle.sccs_script_laws.proofs.PlanOrder.{plan_in_order}
use Rattle.sccs_script.specs.Drafts.{draft_base, edited_draft, draft_plan}
use Rattle.sccs_script.proofs.Entries.{plan_edited}
use Rattle.sccs_script.proofs.PlanLaws.{range_of}
use Rattle.sccs_script.proofs.plans.plan.Goals as goal

pub returns-clause-value : goal.returns-clause-value
returns-clause-value c =
    let same = ap (λ orders. draft_plan (edited_draft orders (draft_base c.args.lines)) c.args.lines)
    c.orders.ensures.value in
    subst (λ (q : Plan). IfOk c.plan_of.result (λ p. p ≡ q))
    (ap (λ entries. draft_plan entries c.args.lines) c.in_ok-pieces.ensures.edited
    ∙ (same ∙ sym (plan_edited 18446744073709551616 c.args.script.now c.args.lines c.orders.ensures.fit
    (range_of c.args.script.now c.args.lines c.requires.fits))))
    c.plan_of.ensures

pub returns-clause-order : goal.returns-clause-order
returns-clause-order c = in_order c.plan_of.result (returns-clause-value c)
  where
    in_order : {E : Type 0} (r : Result Plan E) → IfOk r (λ p. p ≡ plan c.args.script.now c.args.lines)
        → IfOk r IsInOrder
    in_order (Ok p) same = subst IsInOrder (sym same) (plan_in_order c.args.script.now c.args.lines)
    in_order (Err fault) same = tt
