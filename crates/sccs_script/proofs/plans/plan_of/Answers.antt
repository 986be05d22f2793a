use Rattle.std.proofs.Common.{◌++◌, suc, sym, ap, ◌∙◌}
use Rattle.sccs_script.specs.Drafts.{grouped, IsPiece, IsWithinBase, missing, unstacked}
use Rattle.sccs_script.proofs.PieceLaws.{popped, popped_rest}
use Rattle.sccs_script.proofs.plans.plan_of.Goals as goal

pub loop-piece-preserved : goal.loop-piece-preserved
loop-piece-preserved c =
    let is = popped c.loop-piece.pieces.items c.pop.new.self.items c.in-Some.piece c.pop.result c.pop.ensures.items
    c.in-Some.is in
    record {
      deleted = c.in_ok-next.ensures (unstacked c.pop.new.self.items) (suc c.args.lines)
          ∙ (ap (λ l. c.loop-piece.deleted ++ missing c.loop-piece.next l (suc c.args.lines)) (sym is)
          ∙ c.loop-piece.invariant.deleted);
      added = c.in_ok-groups.ensures (unstacked c.pop.new.self.items)
          ∙ (ap (λ l. c.loop-piece.groups.done ++ grouped c.loop-piece.groups.after c.loop-piece.groups.lines l)
          (sym is) ∙ c.loop-piece.invariant.added);
      fits = (popped_rest IsPiece c.loop-piece.pieces.items c.pop.new.self.items c.in-Some.piece c.pop.result
          c.pop.ensures.items c.in-Some.is c.loop-piece.invariant.fits).0;
      within = (popped_rest (IsWithinBase c.args.lines) c.loop-piece.pieces.items c.pop.new.self.items c.in-Some.piece
          c.pop.result c.pop.ensures.items c.in-Some.is c.loop-piece.invariant.within).0;
    }
