use Rattle.std.proofs.Common.{◌+◌, ◌≤◌, length, length-take, arith}
use Rattle.sccs_base.proofs.Runs.{takes_more}
use Rattle.sccs_base.proofs.pieces.take_all.Goals as goal

pub returns-then-n-room-clause-err : goal.returns-then-n-room-clause-err
returns-then-n-room-clause-err g c =
    let short : length c.loop-n.all.items + c.in-Ok.n ≤ c.args.limit + 1 =
    omega (arith, length-take c.asked.result c.loop-n.piece, c.in-Ok.ensures.bound, c.asked.ensures.room) in
    takes_more _ _ _ c.loop-n.all.items _ _ _ _ c.loop-n.invariant.1 c.in-Ok.ensures.ok short

pub returns-in_default-extend_from_slice-clause-err : goal.returns-in_default-extend_from_slice-clause-err
returns-in_default-extend_from_slice-clause-err g c =
    let short : length c.loop-n.all.items + c.in-Ok.n ≤ c.args.limit + 1 = omega arith in
    takes_more _ _ _ c.loop-n.all.items _ _ _ _ c.loop-n.invariant.1 c.in-Ok.ensures.ok short
