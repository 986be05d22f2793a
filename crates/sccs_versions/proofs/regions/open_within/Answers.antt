use Rattle.std.proofs.Common.{[], subst, ap, ◌∙◌}
use Rattle.sccs_versions.specs.Stacks.{FitsAt, stacked, StandsAt}
use Rattle.sccs_versions.proofs.Places.{opened_insert, opened_set}
use Rattle.sccs_versions.proofs.regions.open_within.Goals as goal

pub returns-in-Ok-clause-ok : goal.returns-in-Ok-clause-ok
returns-in-Ok-clause-ok c = opened_set c.args.region c.args.regions.now.items c.in-Ok.at
    (subst (λ l. StandsAt c.args.region.serial c.in-Ok.at l) c.deref.ensures.value c.in-Ok.ensures.place)

pub returns-in_ok-insert-in-Err-clause-ok : goal.returns-in_ok-insert-in-Err-clause-ok
returns-in_ok-insert-in-Err-clause-ok c =
    ap (λ l. stacked [] l) c.in_ok-insert-in-Err.ensures.items
    ∙ opened_insert c.args.region c.args.regions.now.items c.in-Err.at
    (subst (λ l. FitsAt c.args.region.serial c.in-Err.at l) c.deref.ensures.value c.in-Err.ensures.place)
