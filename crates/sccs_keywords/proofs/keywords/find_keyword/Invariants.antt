use Rattle.std.proofs.Common.{◌-◌, ◌≤◌, length}
use Rattle.sccs_keywords.specs.Keywords.{HasNone}
use Rattle.sccs_keywords.proofs.keywords.find_keyword.Given as goal

-- no keyword begins before the place
abbrev pub invariant-places : goal.invariant-places
invariant-places l = record {
  fits : l.from ≤ length l.line;
  none : HasNone l.line l.from;
}

abbrev pub decreases-places : goal.decreases-places
decreases-places l = length l.line - l.from
