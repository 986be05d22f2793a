use Rattle.std.proofs.Common.{◌≡◌, ◌++◌, take}
use Rattle.sccs_summary.specs.Summaries.{tabbed}
use Rattle.sccs_summary.proofs.entries.add_lines.Given as goal

abbrev pub invariant-loop-line : goal.invariant-loop-line
invariant-loop-line l = l.text.items ≡ l.fn.text.items ++ tabbed (take l.line-index l.lines)
