use Rattle.std.proofs.Common.{◌∙◌, ◌++◌, ap, arith}
use Rattle.sccs_trunks.specs.Cells.{cells_of}
use Rattle.sccs_trunks.proofs.PieceCells.{add_put}
use Rattle.sccs_trunks.proofs.reading.put_command.Goals as goal

pub returns-in_ok-put-in-Add-2-clause-cells : goal.returns-in_ok-put-in-Add-2-clause-cells
returns-in_ok-put-in-Add-2-clause-cells c =
    add_put c.args.serial c.in-Add.line c.in-Add.count c.args.last c.saturating_sub-in-Add.result c.min.result
    c.args.command.now
    (cells_of c.args.pieces.now.items) (cells_of c.put-in-Add.new.pieces.items)
    (cells_of c.put-in-Add-2.new.pieces.items)
    c.args.rest.now c.split_at.result.0.now c.split_at.result.1.now
    c.in-Add.is (omega (arith, c.saturating_sub-in-Add.ensures)) (omega (arith, c.min.ensures)) c.split_at.ensures.front
    c.split_at.ensures.back
    (c.in_ok-put-in-Add.ensures ∙ ap (λ l. cells_of c.args.pieces.now.items ++ l) c.base-in-Add.ensures.cells)
    c.in_ok-put-in-Add-2.ensures
