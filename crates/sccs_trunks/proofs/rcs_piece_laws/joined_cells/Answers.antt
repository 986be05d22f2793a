use Rattle.sccs_trunks.proofs.Joins.{joins}
use Rattle.sccs_trunks.proofs.rcs_piece_laws.joined_cells.Goals as goal

pub returns : goal.returns
returns c = λ later cells lines. joins later cells lines
