use Rattle.std.proofs.Common.{◌≡◌, ◌++◌, take}
use Rattle.sccs_edit.specs.SactStep.{edit_lines}
use Rattle.sccs_edit.proofs.sact_reports.add_entries.Given as goal

-- the lines of the entries so far were added
abbrev pub invariant-loop-edit : goal.invariant-loop-edit
invariant-loop-edit l = l.report.items ≡ l.fn.report.items ++ edit_lines (take l.edit-index l.edits)
