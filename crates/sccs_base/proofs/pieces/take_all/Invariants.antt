use Rattle.std.proofs.Common.{◌≡◌, ◌+◌, ◌≤◌, vec_len}
use Rattle.sccs_base.specs.Stream.{TakesFront}
use Rattle.sccs_base.proofs.pieces.take_all.Given as goal

-- what is taken so far and the room that is left make the limit
abbrev pub invariant-loop-n : goal.invariant-loop-n
invariant-loop-n g l = (vec_len l.all + l.room ≡ l.fn.limit) × (TakesFront (g.S.Source.left l.fn.source)
    (g.S.Source.left l.source) l.all.items) × (g.S.Source.faults l.fn.source ≤ g.S.Source.faults l.source)

abbrev pub decreases-loop-n : goal.decreases-loop-n
decreases-loop-n g l = l.room
