use Rattle.sccs_recovery.proofs.EntryLists.{left_valid}
use Rattle.sccs_recovery.proofs.entries_left.left_by.Goals as goal

pub returns-else-is_empty-clause-entries : goal.returns-else-is_empty-clause-entries
returns-else-is_empty-clause-entries c = left_valid c.args.records.now c.args.edits _ c.drop_done.ensures
    c.requires.edits
