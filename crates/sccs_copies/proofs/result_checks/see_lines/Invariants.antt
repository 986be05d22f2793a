use Rattle.std.proofs.Common.{◌≡◌, ◌≤◌, take}
use Rattle.sccs_disk.specs.Told.{seen}
use Rattle.sccs_table.specs.ReaderState.{bytes_in}
use Rattle.sccs_copies.specs.Examining.{SeesLines}
use Rattle.sccs_copies.proofs.result_checks.see_lines.Given as goal

-- the lines so far went by
abbrev pub invariant-loop-line : goal.invariant-loop-line
invariant-loop-line g l = record {
  same : g.D.Disk.told l.disk ≡ g.D.Disk.told l.fn.disk;
  later : g.D.Disk.faults l.fn.disk ≤ g.D.Disk.faults l.disk;
  name : l.check.lines.name ≡ l.fn.check.lines.name;
  sees : SeesLines (bytes_in (seen (g.D.Disk.told l.fn.disk)) l.fn.check.lines.name) (take l.line-index l.lines)
      l.fn.check l.check;
}
