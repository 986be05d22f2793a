use Rattle.std.proofs.Common.{◌≡◌, map, take}
use Rattle.sccs_delta.proofs.headers.reserved.Given as goal

-- the SIDs of the entries so far
abbrev pub invariant-loop-edit : goal.invariant-loop-edit
invariant-loop-edit l = l.sids ≡ map (λ e. e.made) (take l.edit-index l.edits)
