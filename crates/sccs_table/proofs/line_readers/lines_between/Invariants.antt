use Rattle.std.proofs.Common.{◌≡◌, ◌-◌, ◌≤◌, drop, max, take}
use Rattle.std.specs.Prelude.{IfSome}
use Rattle.sccs_disk.specs.Told.{seen}
use Rattle.sccs_table.specs.ReaderState.{bytes_in}
use Rattle.sccs_table.specs.Runs.{lf_count}
use Rattle.sccs_table.proofs.line_readers.lines_between.Given as goal

-- the lines of the bytes so far are counted
abbrev pub invariant-pieces : goal.invariant-pieces
invariant-pieces g l = record {
  same : g.D.Disk.told l.disk ≡ g.D.Disk.told l.fn.disk;
  later : g.D.Disk.faults l.fn.disk ≤ g.D.Disk.faults l.disk;
  low : l.from ≤ l.at;
  high : l.at ≤ max l.from l.to;
  bound : l.count ≤ l.at - l.from;
  counted : IfSome (bytes_in (seen (g.D.Disk.told l.fn.disk)) l.name) (λ file. l.count ≡ lf_count
      (take (l.at - l.from) (drop l.from file)));
}

abbrev pub decreases-pieces : goal.decreases-pieces
decreases-pieces g l = l.to - l.at
