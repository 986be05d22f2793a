use Rattle.std.proofs.Common.{◌≡◌, ◌+◌, ◌-◌, ◌*◌, ◌≤◌, length, max}
use Rattle.sccs_disk.specs.Told.{seen}
use Rattle.sccs_table.specs.ReaderState.{Stays, bytes_in}
use Rattle.sccs_table.proofs.line_readers.LineReader.skip_to.Given as goal

-- the reader stays in its file, and reads nothing from the place on
abbrev pub invariant-pieces : goal.invariant-pieces
invariant-pieces g l = record {
  same : g.D.Disk.told l.disk ≡ g.D.Disk.told l.fn.disk;
  later : g.D.Disk.faults l.fn.disk ≤ g.D.Disk.faults l.disk;
  name : l.self.name ≡ l.fn.self.name;
  limit : l.self.limit ≡ l.fn.self.limit;
  ahead : l.self.place + length l.self.held ≤ l.self.limit;
  onward : l.fn.self.place + length l.fn.self.held ≤ l.self.place + length l.self.held;
  bound : l.self.place + length l.self.held ≤ max l.fn.to (l.fn.self.place + length l.fn.self.held);
  stays : Stays (bytes_in (seen (g.D.Disk.told l.fn.disk)) l.fn.self.name) l.fn.self l.self;
}

abbrev pub decreases-pieces : goal.decreases-pieces
decreases-pieces g l = 2 * (l.self.limit - l.self.place) + (1 - length l.self.held)
