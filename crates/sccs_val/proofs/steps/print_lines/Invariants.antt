use Rattle.std.proofs.Common.{◌≡◌, ◌≤◌, Some}
use Rattle.sccs_disk.specs.Files.{View}
use Rattle.sccs_disk.specs.Told.{seen}
use Rattle.sccs_val.specs.Reports.{line_status, line_text}
use Rattle.sccs_val.proofs.LineLaws.{Printed}
use Rattle.sccs_val.proofs.steps.print_lines.Given as goal

-- the lines so far were printed
abbrev pub invariant-loop-line : goal.invariant-loop-line
invariant-loop-line g l = record {
  so_far : (v : View) → seen (g.D.Disk.told l.fn.disk) ≡ Some v → Printed (line_text v) (line_status v) l.lines
      l.line-index l.status (g.O.Sink.given l.fn.out) (g.O.Sink.given l.out);
  same : g.D.Disk.told l.disk ≡ g.D.Disk.told l.fn.disk;
  out_later : g.O.Sink.faults l.fn.out ≤ g.O.Sink.faults l.out;
  later : g.D.Disk.faults l.fn.disk ≤ g.D.Disk.faults l.disk;
}
