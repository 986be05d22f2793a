use Rattle.std.proofs.Common.{◌≡◌, ◌+◌, ◌-◌, ◌*◌, ◌≤◌, length}
use Rattle.sccs_disk.specs.Told.{seen}
use Rattle.sccs_table.specs.ReaderState.{bytes_in}
use Rattle.sccs_table.proofs.ReaderLaws.{Summing}
use Rattle.sccs_table.proofs.line_readers.LineReader.sum_left.Given as goal

-- the sums are those of what was gone over
abbrev pub invariant-pieces : goal.invariant-pieces
invariant-pieces g l = record {
  same : g.D.Disk.told l.disk ≡ g.D.Disk.told l.fn.disk;
  later : g.D.Disk.faults l.fn.disk ≤ g.D.Disk.faults l.disk;
  name : l.self.name ≡ l.fn.self.name;
  ahead : l.self.place + length l.self.held ≤ l.self.limit;
  summing : Summing (bytes_in (seen (g.D.Disk.told l.fn.disk)) l.fn.self.name) l.fn.self l.self l.sum;
}

abbrev pub decreases-pieces : goal.decreases-pieces
decreases-pieces g l = 2 * (l.self.limit - l.self.place) + (1 - length l.self.held)
