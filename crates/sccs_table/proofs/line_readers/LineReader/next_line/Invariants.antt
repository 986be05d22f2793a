use Rattle.std.proofs.Common.{◌≡◌, ◌+◌, ◌-◌, ◌*◌, ◌≤◌, length}
use Rattle.sccs_base.specs.Cut.{HasNoLf}
use Rattle.sccs_disk.specs.Told.{seen}
use Rattle.sccs_table.specs.ReaderState.{bytes_in}
use Rattle.sccs_table.proofs.ReaderLaws.{Going}
use Rattle.sccs_table.proofs.line_readers.LineReader.next_line.Given as goal

-- the line so far has no LF, and what is left goes on from it
abbrev pub invariant-pieces : goal.invariant-pieces
invariant-pieces g l = record {
  same : g.D.Disk.told l.disk ≡ g.D.Disk.told l.fn.disk;
  later : g.D.Disk.faults l.fn.disk ≤ g.D.Disk.faults l.disk;
  name : l.self.name ≡ l.fn.self.name;
  limit : l.self.limit ≡ l.fn.self.limit;
  ahead : l.self.place + length l.self.held ≤ l.self.limit;
  moved : l.self.place ≡ l.fn.self.place + length l.line.items;
  none : HasNoLf l.line.items;
  going : Going (bytes_in (seen (g.D.Disk.told l.fn.disk)) l.fn.self.name) l.fn.self l.self l.line.items;
}

abbrev pub decreases-pieces : goal.decreases-pieces
decreases-pieces g l = 2 * (l.self.limit - l.self.place) + (1 - length l.self.held)
