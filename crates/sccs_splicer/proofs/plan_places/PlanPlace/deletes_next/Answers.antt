use Rattle.std.proofs.Common.{◌≡◌, suc, subst}
use Rattle.sccs_history.specs.Numbers.{has}
use Rattle.sccs_splicer.specs.PlanPlaces.{Passed}
use Rattle.sccs_splicer.proofs.PlaceLaws.{has_is}
use Rattle.sccs_splicer.proofs.plan_places.PlanPlace.deletes_next.Goals as goal

pub returns : goal.returns
returns c =
    subst (λ (v : Passed). c.is_next.result ≡ has v.plan.deleted (suc v.line)) c.self.view_is
    (has_is c.self.inside.line c.self.inside.deleted_at c.self.inside.plan.deleted c.number_at-next.result
    c.is_next.result c.self.invariant.deleted c.number_at-next.ensures.value c.is_next.ensures)
