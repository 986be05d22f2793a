use Rattle.sccs_trunks.proofs.TrunkCells.{trunk_by_cells}
use Rattle.sccs_trunks.proofs.rcs_piece_laws.trunk_cells.Goals as goal

pub returns : goal.returns
returns c = λ n head revisions scripts e. trunk_by_cells n head revisions scripts e
