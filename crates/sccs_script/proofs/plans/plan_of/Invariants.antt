use Rattle.std.proofs.Common.{◌≡◌, ◌++◌, [], suc, length}
use Rattle.std.specs.List.{AllByRecursion}
use Rattle.sccs_script.specs.Drafts.{grouped, IsPiece, IsWithinBase, missing, unstacked}
use Rattle.sccs_script.proofs.plans.plan_of.Given as goal

-- what was found so far, and what is to be found of the pieces that are left, is what all give
abbrev pub invariant-loop-piece : goal.invariant-loop-piece
invariant-loop-piece l = record {
  deleted : l.deleted ++ missing l.next (unstacked l.pieces.items) (suc l.lines) ≡ missing 1
      (unstacked l.fn.pieces.items) (suc l.lines);
  added : l.groups.done ++ grouped l.groups.after l.groups.lines (unstacked l.pieces.items) ≡ grouped 0 []
      (unstacked l.fn.pieces.items);
  fits : AllByRecursion IsPiece l.pieces.items;
  within : AllByRecursion (IsWithinBase l.lines) l.pieces.items;
}

abbrev pub decreases-loop-piece : goal.decreases-loop-piece
decreases-loop-piece l = length l.pieces.items
