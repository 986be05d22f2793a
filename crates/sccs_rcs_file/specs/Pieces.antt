-- The pieces of a date as the code has them.
use Rattle.sccs_rcs_file.specs.Trunk.{DatePieces}
use Rattle.sccs_rcs_file.specs.declared.dates.Pieces.{Pieces}

abbrev pub pieces_seen : Pieces → DatePieces
pieces_seen p = record {
  month = p.month.now;
  day = p.day.now;
  hour = p.hour.now;
  minute = p.minute.now;
  second =
      p.second.now;
}
