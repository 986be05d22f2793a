use Rattle.std.proofs.Common.{◌≡◌, map, take}
use Rattle.sccs_group_command.specs.Making.{member_of}
use Rattle.sccs_group_command.proofs.joining.members_of.Given as goal

abbrev pub invariant-loop-entry : goal.invariant-loop-entry
invariant-loop-entry l = l.members ≡ map member_of (take l.entry-index l.made)
