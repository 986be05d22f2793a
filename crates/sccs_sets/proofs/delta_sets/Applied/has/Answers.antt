use Rattle.std.proofs.Common.{get_or, false, ap, ◌∙◌}
use Rattle.sccs_history.specs.Numbers.{has}
use Rattle.sccs_sets.proofs.Passing.{has-marked}
use Rattle.sccs_sets.proofs.delta_sets.Applied.has.Goals as goal

pub returns : goal.returns
returns c =
    c.is_set.ensures
    ∙ (ap (λ l. get_or l c.args.serial false) c.deref.ensures.value
    ∙ (has-marked c.self.inside.marks.items c.args.serial ∙ ap (λ l. has l c.args.serial) c.self.view_is))
