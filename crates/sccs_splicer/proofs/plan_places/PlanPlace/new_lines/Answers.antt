use Rattle.std.proofs.Common.{◌≡◌, ℕ, List, [], arith, subst, ◌∙◌}
use Rattle.sccs_script_laws.specs.Plans.{added_after}
use Rattle.sccs_splicer.specs.PlanPlaces.{Passed}
use Rattle.sccs_splicer.proofs.PlaceLaws.{added_other, added_past, added_there}
use Rattle.sccs_splicer.proofs.plan_places.PlanPlace.new_lines.Goals as goal
use Rattle.sccs_splicer.proofs.plan_places.PlanPlace.new_lines.Goals.{then-self-len+else-added-self, else-self-len}

pub returns-then-added-self : goal.returns-then-added-self
returns-then-added-self c =
    subst (λ (v : Passed). c.items.result.now ≡ added_after v.line v.plan.added) c.self.view_is
    (c.items.ensures ∙ added_there c.self.inside.line c.self.inside.added_at c.self.inside.plan.added _
    c.self.invariant.added c.at-added.ensures c.if-added-self.true)

pub returns : goal.returns
returns c =
    subst (λ (v : Passed). ◌≡◌ {A = List (List ℕ)} [] (added_after v.line v.plan.added)) c.self.view_is
    (elim c.if-self-len.branch [
      | then-self-len+else-added-self w ↦ added_other c.self.inside.line c.self.inside.added_at c.self.inside.plan.added
          _ c.self.invariant.added w.at-added.ensures w.if-added-self.false
      | else-self-len w ↦ added_past c.self.inside.line c.self.inside.added_at c.self.inside.plan.added
          c.self.invariant.added (omega (arith, w.if-self-len.false, c.len.ensures))
    ])
