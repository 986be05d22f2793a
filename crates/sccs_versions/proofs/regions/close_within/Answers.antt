use Rattle.std.proofs.Common.{[], subst, ap, ◌∙◌}
use Rattle.sccs_versions.specs.Stacks.{FitsAt, stacked, StandsAt}
use Rattle.sccs_versions.proofs.Places.{closed_remove, closed_same}
use Rattle.sccs_versions.proofs.regions.close_within.Goals as goal

pub returns-in-Ok : goal.returns-in-Ok
returns-in-Ok c =
    ap (λ l. stacked [] l) c.remove.ensures.items
    ∙ closed_remove c.args.serial c.args.regions.now.items c.in-Ok.at (subst (λ l. StandsAt c.args.serial c.in-Ok.at l)
    c.deref.ensures.value c.in-Ok.ensures.place)

pub returns-in-Err : goal.returns-in-Err
returns-in-Err c = closed_same c.args.serial c.args.regions.now.items c.in-Err.field-0
    (subst (λ l. FitsAt c.args.serial c.in-Err.field-0 l) c.deref.ensures.value c.in-Err.ensures.place)
