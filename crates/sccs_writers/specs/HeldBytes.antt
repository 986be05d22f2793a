-- How a writer holds bytes back.
use Rattle.std.specs.Prelude.{◌≤◌, take}
use Rattle.sccs_writers.specs.Puts.{Writer}
use Rattle.sccs_writers.specs.declared.piece_writers.PieceWriter.TheInside.{Inside}

abbrev pub writer_of : Inside → Writer
writer_of w = record { name = w.name; held = take w.len w.piece; sums = w.sum }

-- they stand at the start of a piece
abbrev pub IsWithinPiece : Inside → Type 0
IsWithinPiece w = w.len ≤ 4096
