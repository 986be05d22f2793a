use Rattle.std.proofs.Common.{◌≡◌, ◌+◌, ◌-◌, ◌++◌, map}
use Rattle.sccs_script.specs.Drafts.{content, expand, Kept, span}
use Rattle.sccs_script.specs.declared.pieces.Piece.TheVariants as pieces
use Rattle.sccs_script.proofs.applying.copy_lines.Given as goal

-- the lines so far and those that are left are all
abbrev pub invariant-loop-place : goal.invariant-loop-place
invariant-loop-place l =
    l.lines ++ map (content l.text) (map Kept (span (l.place + 1) (l.last - l.place))) ≡ l.fn.lines ++ map
    (content l.text) (expand (pieces.Kept l.first l.last))
