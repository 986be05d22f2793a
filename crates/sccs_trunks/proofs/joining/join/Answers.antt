use Rattle.std.proofs.Common.{◌∙◌, ◌++◌, ap, sym, append_assoc}
use Rattle.sccs_trunks.specs.Cells.{cells_of, expand}
use Rattle.sccs_trunks.specs.Lefts.{left_cells}
use Rattle.sccs_trunks.proofs.PieceCells.{cells_push}
use Rattle.sccs_trunks.proofs.joining.join.Goals as goal

pub rest-preserved : goal.rest-preserved
rest-preserved c =
    ap (λ l. l ++ left_cells c.next-in-rest.new.self) (ap cells_of c.in_ok-push.ensures.items
    ∙ cells_push c.rest.out.items c.in-Some-next.piece)
    ∙ (append_assoc (cells_of c.rest.out.items) (expand c.in-Some-next.piece) (left_cells c.next-in-rest.new.self)
    ∙ (ap (λ l. cells_of c.rest.out.items ++ l) (sym c.in-Some-next.ensures.some) ∙ c.rest.invariant))
