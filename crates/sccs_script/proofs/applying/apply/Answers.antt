use Rattle.std.proofs.Common.{◌++◌, List, ℕ, length, map, sym, subst, ap, ◌∙◌, append_assoc}
use Rattle.std.proofs.lemmas.List.{map-append}
use Rattle.std.specs.List.{AllByRecursion}
use Rattle.sccs_script.specs.Drafts.{draft_base, content, edited_draft, expand, IsPiece, IsWithinBase, unstacked}
use Rattle.sccs_script.proofs.Contents.{apply_edited}
use Rattle.sccs_script.proofs.PieceLaws.{popped, popped_rest}
use Rattle.sccs_script.proofs.PlanLaws.{range_of}
use Rattle.sccs_script.proofs.applying.apply.Goals as goal

pub loop-piece-init : goal.loop-piece-init
loop-piece-init c =
    let text : List (List ℕ) = c.args.text.now in
    record {
      all = ap (λ l. l ++ map (content text) (unstacked c.in_ok-pieces.pieces.items)) c.empty-lines.ensures
          ∙ (ap (map (content text)) (c.in_ok-pieces.ensures.edited
          ∙ (ap (λ n. edited_draft c.orders.result.now (draft_base n)) c.len.ensures
          ∙ ap (λ orders. edited_draft orders (draft_base (length text))) c.orders.ensures.value))
          ∙ sym (apply_edited text 18446744073709551616 c.args.script.now c.orders.ensures.fit
          (range_of c.args.script.now (length text) c.requires)));
      fits = c.in_ok-pieces.ensures.pieces;
      within = subst (λ n. AllByRecursion (IsWithinBase n) c.in_ok-pieces.pieces.items) c.len.ensures
          c.in_ok-pieces.ensures.within;
    }

pub add_piece-requires-clause-piece : goal.add_piece-requires-clause-piece
add_piece-requires-clause-piece c =
    (popped_rest IsPiece c.loop-piece.pieces.items c.pop.new.self.items c.in-Some.piece c.pop.result c.pop.ensures.items
    c.in-Some.is c.loop-piece.invariant.fits).1

pub add_piece-requires-clause-within : goal.add_piece-requires-clause-within
add_piece-requires-clause-within c =
    (popped_rest (IsWithinBase (length c.args.text.now)) c.loop-piece.pieces.items c.pop.new.self.items c.in-Some.piece
    c.pop.result c.pop.ensures.items c.in-Some.is c.loop-piece.invariant.within).1

pub loop-piece-preserved : goal.loop-piece-preserved
loop-piece-preserved c =
    let text : List (List ℕ) = c.args.text.now in
    let is = popped c.loop-piece.pieces.items c.pop.new.self.items c.in-Some.piece c.pop.result c.pop.ensures.items
    c.in-Some.is in
    let rest : List (List ℕ) = map (content text) (unstacked c.pop.new.self.items) in
    record {
      all = ap (λ l. l ++ rest) c.in_ok-add_piece.ensures
          ∙ (append_assoc c.loop-piece.lines (map (content text) (expand c.in-Some.piece)) rest
          ∙ (ap (λ l. c.loop-piece.lines ++ l) (sym (map-append (content text) (expand c.in-Some.piece)
          (unstacked c.pop.new.self.items)) ∙ ap (map (content text)) (sym is))
          ∙ c.loop-piece.invariant.all));
      fits = (popped_rest IsPiece c.loop-piece.pieces.items c.pop.new.self.items c.in-Some.piece c.pop.result
          c.pop.ensures.items c.in-Some.is c.loop-piece.invariant.fits).0;
      within = (popped_rest (IsWithinBase (length text)) c.loop-piece.pieces.items c.pop.new.self.items c.in-Some.piece
          c.pop.result c.pop.ensures.items c.in-Some.is c.loop-piece.invariant.within).0;
    }
