use Rattle.std.proofs.Common.{◌≡◌, take}
use Rattle.sccs_group_command.specs.Making.{messages_in}
use Rattle.sccs_group_command.proofs.joining.message_of.Given as goal

abbrev pub invariant-loop-entry : goal.invariant-loop-entry
invariant-loop-entry l = l.message.items ≡ messages_in (take l.entry-index l.made)
