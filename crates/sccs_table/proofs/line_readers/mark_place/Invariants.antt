use Rattle.std.proofs.Common.{◌-◌, ◌≤◌, length}
use Rattle.sccs_table.specs.Runs.{HasNoMark}
use Rattle.sccs_table.proofs.line_readers.mark_place.Given as goal

-- no mark stands before the place
abbrev pub invariant-places : goal.invariant-places
invariant-places l = record {
  fits : l.from ≤ length l.bytes;
  none : HasNoMark l.bytes l.from;
}

abbrev pub decreases-places : goal.decreases-places
decreases-places l = length l.bytes - l.from
