use Rattle.std.proofs.Common.{◌≡◌, ◌++◌, map}
use Rattle.sccs_base.specs.Cut.{text_of, without_lf}
use Rattle.sccs_base.proofs.texts.ListOf+Line.read.Given as goal

-- the lines so far and those of the rest are all lines
abbrev pub invariant-lines : goal.invariant-lines
invariant-lines l = record {
  all : l.lines.items ++ map without_lf l.line-iterator ≡ text_of l.fn.bytes;
  can : (goal.iterator-lines).can_next l.line-iterator;
  ends : (goal.iterator-lines).is_finite l.line-iterator;
}
