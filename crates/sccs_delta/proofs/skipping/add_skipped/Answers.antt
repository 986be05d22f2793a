use Rattle.std.proofs.Common.{◌∙◌}
use Rattle.sccs_delta.proofs.skipping.add_skipped.Goals as goal

pub add_by_marks-requires : goal.add_by_marks-requires
add_by_marks-requires c = c.deref_mut.ensures.value ∙ c.in_ok-used.ensures
