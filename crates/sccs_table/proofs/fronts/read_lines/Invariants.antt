use Rattle.std.proofs.Common.{◌≡◌, ◌+◌, ◌-◌, ◌≤◌}
use Rattle.sccs_disk.specs.Told.{seen}
use Rattle.sccs_grammar.specs.Front.{start}
use Rattle.sccs_grammar.proofs.ParserRules.{Keeps}
use Rattle.sccs_grammar.proofs.SpelledParsers.{IsSpelledSoFar}
use Rattle.sccs_table.specs.ReaderState.{Stays, bytes_in}
use Rattle.sccs_table.proofs.FrontLaws.{GoesLines}
use Rattle.sccs_table.proofs.fronts.read_lines.Given as goal

-- reading goes on here as from the start, and each line took a byte
abbrev pub invariant-lines : goal.invariant-lines
invariant-lines g l = record {
  same : g.D.Disk.told l.disk ≡ g.D.Disk.told l.fn.disk;
  later : g.D.Disk.faults l.fn.disk ≤ g.D.Disk.faults l.disk;
  name : l.reader.name ≡ l.fn.reader.name;
  limit : l.reader.limit ≡ l.fn.reader.limit;
  ahead : l.fn.reader.place + l.number ≤ l.reader.place + 2;
  within : l.number ≤ 2 + l.fn.reader.limit;
  stays : Stays (bytes_in (seen (g.D.Disk.told l.fn.disk)) l.fn.reader.name) l.fn.reader l.reader;
  kept : Keeps l.parser;
  spelled : IsSpelledSoFar l.parser;
  goes : GoesLines (bytes_in (seen (g.D.Disk.told l.fn.disk)) l.fn.reader.name) l.fn.reader start 2 l.reader l.parser
      l.number;
}

abbrev pub decreases-lines : goal.decreases-lines
decreases-lines g l = l.reader.limit - l.reader.place
