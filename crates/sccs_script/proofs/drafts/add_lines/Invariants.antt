use Rattle.std.proofs.Common.{◌≡◌, ◌++◌, drop, map}
use Rattle.sccs_script.specs.Drafts.{Fresh}
use Rattle.sccs_script.proofs.drafts.add_lines.Given as goal

-- the lines so far and those that are left are all
abbrev pub invariant-loop-line : goal.invariant-loop-line
invariant-loop-line l = l.tree ++ map (Fresh l.after) (drop l.line-index l.lines) ≡ l.fn.tree ++ map
    (Fresh l.after) l.lines
