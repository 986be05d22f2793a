use Rattle.std.proofs.Common.{sym, ap, ◌∙◌}
use Rattle.sccs_script.proofs.DraftLaws.{anchor_piece, piece_end}
use Rattle.sccs_script.proofs.pieces.end.Goals as goal

pub returns-in-Kept : goal.returns-in-Kept
returns-in-Kept c = λ n. sym (anchor_piece n c.args.piece.now c.requires ∙ ap piece_end c.in-Kept.is)
