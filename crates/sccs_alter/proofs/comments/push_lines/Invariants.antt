use Rattle.std.proofs.Common.{◌≡◌, ◌++◌, take}
use Rattle.sccs_alter.proofs.comments.push_lines.Given as goal

-- the lines so far were put
abbrev pub invariant-loop-line : goal.invariant-loop-line
invariant-loop-line l = l.text ≡ l.fn.text ++ take l.line-index l.lines
