use Rattle.std.proofs.Common.{◌≡◌, ◌++◌, take}
use Rattle.sccs_get.specs.Reports.{sid_lines}
use Rattle.sccs_get.proofs.reports.add_sids.Given as goal

-- the SIDs of the ranges so far were added
abbrev pub invariant-loop-range : goal.invariant-loop-range
invariant-loop-range l = l.report.items ≡ l.fn.report.items ++ sid_lines (take l.range-index l.ranges)
