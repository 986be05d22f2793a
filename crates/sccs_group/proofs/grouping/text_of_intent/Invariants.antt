use Rattle.std.proofs.Common.{◌≡◌, take}
use Rattle.sccs_group.specs.Members.{entries_of}
use Rattle.sccs_group.proofs.grouping.text_of_intent.Given as goal

abbrev pub invariant-loop-member : goal.invariant-loop-member
invariant-loop-member l = l.entries ≡ entries_of (take l.member-index l.members)
