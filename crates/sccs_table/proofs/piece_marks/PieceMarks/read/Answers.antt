use Rattle.sccs_table.proofs.ZeroLaws.{zero_blocks}
use Rattle.sccs_table.proofs.piece_marks.PieceMarks.read.Goals as goal

pub read_sohs-requires-clause-rest : goal.read_sohs-requires-clause-rest
read_sohs-requires-clause-rest c = zero_blocks c.args.piece.now c.args.filled c.blocks_of-blocks.result c.requires.fits
    c.blocks_of-blocks.ensures.all c.requires.rest

pub read_ends-requires-clause-rest : goal.read_ends-requires-clause-rest
read_ends-requires-clause-rest c = zero_blocks c.args.piece.now c.args.filled c.blocks_of-blocks.result c.requires.fits
    c.blocks_of-blocks.ensures.all c.requires.rest
