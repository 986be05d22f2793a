use Rattle.sccs_splicer.proofs.PlaceLaws.{stood_at}
use Rattle.sccs_splicer.proofs.plan_places.PlanPlace.advance.Goals as goal

pub invariant_of-self : goal.invariant_of-self
invariant_of-self c =
    stood_at c.self.inside.plan c.self.inside.line c.self.inside.deleted_at c.self.inside.added_at _ _ _ _
    c.self.invariant c.number_at-deleted.ensures.value c.after_at-after.ensures.value
    c.next_place-deleted_at.ensures c.next_place-added_at.ensures
