use Rattle.std.proofs.Common.{◌≡◌, ◌+◌, ◌++◌}
use Rattle.sccs_trunks.specs.Cells.{cells_of, joined}
use Rattle.sccs_trunks.specs.Lefts.{left_cells, left_size}
use Rattle.sccs_trunks.proofs.joining.join.Given as goal

abbrev pub invariant-pieces : goal.invariant-pieces
invariant-pieces l = cells_of l.out.items ++ joined (left_cells l.above) (left_cells l.below) ≡ joined
    (cells_of l.fn.later) (cells_of l.fn.first)

abbrev pub decreases-pieces : goal.decreases-pieces
decreases-pieces l = left_size l.below + left_size l.above

abbrev pub invariant-rest : goal.invariant-rest
invariant-rest l = cells_of l.out.items ++ left_cells l.below ≡ joined (cells_of l.fn.later) (cells_of l.fn.first)

abbrev pub decreases-rest : goal.decreases-rest
decreases-rest l = left_size l.below
