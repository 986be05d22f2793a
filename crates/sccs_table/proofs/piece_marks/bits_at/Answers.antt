use Rattle.std.proofs.Common.{arith, eqb, w8}
use Rattle.std.proofs.lemmas.Simd.{bitmask_splat, length-chunk}
use Rattle.sccs_table.proofs.piece_marks.bits_at.Goals as goal

pub returns : goal.returns
returns c = bitmask_splat w8 eqb _ 64 c.args.byte (length-chunk c.args.at 64 c.args.piece.now c.requires) (omega arith)
