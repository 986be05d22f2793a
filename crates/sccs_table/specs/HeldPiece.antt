-- How a reader of lines is held.
use Rattle.std.specs.Prelude.{◌+◌, ◌-◌, ◌≤◌, take, drop}
use Rattle.sccs_base.specs.Cut.{HasNoLf}
use Rattle.sccs_table.specs.Marks.{MarksOf}
use Rattle.sccs_table.specs.ReaderState.{ReaderState}
use Rattle.sccs_table.specs.declared.line_readers.LineReader.TheInside.{Inside}

abbrev pub reader_state : Inside → ReaderState
reader_state r = record {
  name = r.name;
  held = take (r.end - r.start) (drop r.start r.piece);
  place = r.place;
  limit =
      r.limit;
  sum = r.sum;
}

-- The held bytes are within the piece and the limit, which is a byte past the longest file at most. The marks are those
-- of the piece, and behind the place of its last LF none is read.
pub record IsPieceKept (r : Inside) : Type 0 where
  pub order : r.start ≤ r.end
  pub within : r.end ≤ 4096
  pub ahead : r.place + (r.end - r.start) ≤ r.limit
  pub limit : r.limit ≤ 1073741825
  pub marks : MarksOf r.marks r.piece
  pub whole : r.whole ≤ r.end
  pub rest : HasNoLf (drop r.whole (take r.end r.piece))
