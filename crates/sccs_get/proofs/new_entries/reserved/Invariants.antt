use Rattle.std.proofs.Common.{◌≡◌, take}
use Rattle.sccs_get.specs.NewEntry.{reserved}
use Rattle.sccs_get.proofs.new_entries.reserved.Given as goal

-- the SIDs of the entries so far
abbrev pub invariant-loop-edit : goal.invariant-loop-edit
invariant-loop-edit l = l.sids ≡ reserved (take l.edit-index l.edits)
