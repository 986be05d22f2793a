use Rattle.std.proofs.Common.{◌∙◌, ap, length, refl}
use Rattle.sccs_trunks.specs.Cells.{cells_of, joined}
use Rattle.sccs_trunks.proofs.TrunkCells.{laid_halves, whole_of}
use Rattle.sccs_trunks.proofs.joining.«+join_scripts».Goals as goal

pub returns-in_ok-pieces-in_default : goal.returns-in_ok-pieces-in_default
returns-in_ok-pieces-in_default t c =
    laid_halves c.args.below c.args.revisions.now c.split_at.result.0.now c.split_at.result.1.now
    (length c.split_at.result.1.now)
    (cells_of c.in_ok-pieces-in_default.pieces.items) (cells_of c.in_ok-first-in_default.first.items)
    (cells_of c.in_ok-later-in_default.later.items)
    (whole_of _ c.args.revisions.now c.split_at.result.0.now c.split_at.result.1.now c.split_at.ensures.front
    c.split_at.ensures.back)
    refl (c.in_ok-pieces-in_default.ensures
    ∙ (ap (λ l. joined (cells_of l) (cells_of c.as_slice.result.now)) c.as_slice-in_default.ensures.value
    ∙ ap (λ l. joined (cells_of c.in_ok-later-in_default.later.items) (cells_of l)) c.as_slice.ensures.value))
    c.in_ok-first-in_default.ensures c.in_ok-later-in_default.ensures
