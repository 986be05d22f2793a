use Rattle.std.proofs.Common.{◌≡◌, take}
use Rattle.sccs_group_command.specs.Making.{reports_in}
use Rattle.sccs_group_command.proofs.joining.report_of.Given as goal

abbrev pub invariant-loop-entry : goal.invariant-loop-entry
invariant-loop-entry l = l.report.items ≡ reports_in l.several (take l.entry-index l.made)
