use Rattle.std.proofs.Common.{sym, subst}
use Rattle.sccs_group_command.specs.Preparing.{AreGrouped}
use Rattle.sccs_group_tests.proofs.tests.steps.answer_to.Goals as goal

pub make_group-answer-requires-clause-entries : goal.make_group-answer-requires-clause-entries
make_group-answer-requires-clause-entries c = subst AreGrouped (sym c.items-2.ensures)
    (c.entries_read_are_grouped.ensures _ _ c.in-Ok.ensures)
