use Rattle.std.proofs.Common.{◌≡◌, ◌++◌, length}
use Rattle.sccs_trunks.specs.Cells.{cells_of}
use Rattle.sccs_trunks.specs.Scripts.{cells_from, script_cells}
use Rattle.sccs_trunks.proofs.reading.script_pieces.Given as goal

-- the pieces so far and the cells of the rest are those of the script
abbrev pub invariant-lines : goal.invariant-lines
invariant-lines l = cells_of l.pieces.items ++ cells_from l.fn.serial l.last 0 l.rest ≡ script_cells l.fn.serial
    l.fn.script

abbrev pub decreases-lines : goal.decreases-lines
decreases-lines l = length l.rest
