use Rattle.sccs_sid.proofs.CutoffPieces.{cutoff_by_pieces}
use Rattle.sccs_sid.proofs.laws.cutoff_by_pieces.Goals as goal

pub returns : goal.returns
returns c = cutoff_by_pieces
