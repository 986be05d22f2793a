-- What is left of pieces that are taken one by one.
use Rattle.std.specs.Prelude.{ℕ, suc, List, [], ◌++◌, drop, length, Option, None, Some}
use Rattle.sccs_trunks.specs.Cells.{Cell, cells_of, expand}
use Rattle.sccs_trunks.specs.declared.lefts.Left.{Left}
use Rattle.sccs_trunks.specs.declared.pieces.Piece.{Piece}

abbrev pub begun_cells : Option Piece → List Cell
begun_cells None = []
begun_cells (Some p) = expand p

abbrev pub left_cells : Left → List Cell
left_cells l = begun_cells l.begun ++ cells_of (drop l.at l.pieces.now)

abbrev pub begun_size : Option Piece → ℕ → ℕ
begun_size None n = n
begun_size (Some p) n = suc n

-- how many pieces are left
abbrev pub left_size : Left → ℕ
left_size l = begun_size l.begun (length (drop l.at l.pieces.now))
