use Rattle.std.proofs.Common.{◌≡◌, ◌++◌}
use Rattle.sccs_trunks.specs.Cells.{cells_of}
use Rattle.sccs_trunks.specs.Lefts.{left_cells, left_size}
use Rattle.sccs_trunks.specs.Runs.{head_laid, run_lines}
use Rattle.sccs_trunks.proofs.runs.runs_of.Given as goal

-- the lines so far, and those that the rest of the pieces makes of the rest of the head
abbrev pub invariant-pieces : goal.invariant-pieces
invariant-pieces l = run_lines l.runs.items ++ head_laid (left_cells l.left) l.head ≡ head_laid (cells_of l.fn.pieces)
    l.fn.head

abbrev pub decreases-pieces : goal.decreases-pieces
decreases-pieces l = left_size l.left
