use Rattle.sccs_group_command.proofs.GroupedEntries.{read_grouped}
use Rattle.sccs_group_command.proofs.laws.entries_read_are_grouped.Goals as goal

pub returns : goal.returns
returns c = read_grouped
