use Rattle.std.proofs.Common.{◌≡◌, ◌++◌, length, map}
use Rattle.std.specs.List.{AllByRecursion}
use Rattle.sccs_script_laws.specs.Scripts.{apply}
use Rattle.sccs_script.specs.Drafts.{content, IsPiece, IsWithinBase, unstacked}
use Rattle.sccs_script.proofs.applying.apply.Given as goal

-- the lines so far and those of the pieces that are left are the script's text
abbrev pub invariant-loop-piece : goal.invariant-loop-piece
invariant-loop-piece l = record {
  all : l.lines ++ map (content l.text) (unstacked l.pieces.items) ≡ apply l.script l.text;
  fits : AllByRecursion IsPiece l.pieces.items;
  within : AllByRecursion (IsWithinBase (length l.text)) l.pieces.items;
}

abbrev pub decreases-loop-piece : goal.decreases-loop-piece
decreases-loop-piece l = length l.pieces.items
