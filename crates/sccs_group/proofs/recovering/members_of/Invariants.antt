use Rattle.std.proofs.Common.{◌≡◌, take}
use Rattle.sccs_group.specs.Recovering.{bare}
use Rattle.sccs_group.proofs.recovering.members_of.Given as goal

abbrev pub invariant-loop-entry : goal.invariant-loop-entry
invariant-loop-entry l = l.members ≡ bare (take l.entry-index l.entries)
