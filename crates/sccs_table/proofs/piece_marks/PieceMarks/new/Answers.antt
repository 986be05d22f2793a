use Rattle.std.proofs.Common.{refl}
use Rattle.sccs_table.proofs.MarkLaws.{zeros_marked}
use Rattle.sccs_table.proofs.piece_marks.PieceMarks.new.Goals as goal

pub returns : goal.returns
returns c = λ piece is. zeros_marked _ piece 4096 refl refl refl is
