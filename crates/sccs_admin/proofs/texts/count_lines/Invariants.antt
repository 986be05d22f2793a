use Rattle.std.proofs.Common.{◌≡◌, ◌+◌, map, length}
use Rattle.sccs_base.specs.Cut.{text_of, without_lf}
use Rattle.sccs_script.specs.Checks.{bad_line}
use Rattle.sccs_admin.proofs.texts.count_lines.Given as goal

-- no line so far begins with SOH, and those so far and the rest are all
abbrev pub invariant-lines : goal.invariant-lines
invariant-lines l = record {
  bad : bad_line l.count (map without_lf l.line-iterator) ≡ bad_line 0 (text_of l.fn.text);
  all : l.count + length (map without_lf l.line-iterator) ≡ length (text_of l.fn.text);
  can : (goal.iterator-lines).can_next l.line-iterator;
  ends : (goal.iterator-lines).is_finite l.line-iterator;
}
