use Rattle.std.proofs.Common.{◌≡◌, List, ℕ, ◌∷◌, ◌++◌, [], map, subst, sym, ap, ◌∙◌, append_assoc}
use Rattle.sccs_base.specs.Cut.{HasNoLf, text_of, without_lf}
use Rattle.sccs_base.proofs.Lines.{lines_text, next_fit}
use Rattle.sccs_base.proofs.texts.ListOf+Line.read.Goals as goal

pub lines-init : goal.lines-init
lines-init c =
    record {
      all = ap (λ (lines : List (List ℕ)). lines ++ map without_lf c.into_iter-line-iterator.result)
          c.new-lines.ensures.items
          ∙ (ap (map without_lf) (c.into_iter-line-iterator.ensures.into_iter_gives
          ∙ c.lines_with_terminator-line-items.ensures.value)
          ∙ lines_text c.args.bytes.now);
      can = tt;
      ends = tt;
    }

pub invariant_of-push : goal.invariant_of-push
invariant_of-push c =
    let all : c.lines.lines.items ++ without_lf c.in-Some.line.now ∷ map without_lf c.next.new.self
    ≡ text_of c.args.bytes.now =
    ap (λ (rest : List (List ℕ)). c.lines.lines.items ++ map without_lf rest) (sym c.in-Some.ensures.steps)
    ∙ c.lines.invariant.all in
    subst HasNoLf (sym (c.in_ok-line.ensures.items_if_clones_equal (λ x y same. same) ∙ c.without_lf.ensures))
    (next_fit _ _ _ _ all)

pub lines-preserved : goal.lines-preserved
lines-preserved c =
    let line : c.in_ok-line.line.items ≡ without_lf c.in-Some.line.now = c.in_ok-line.ensures.items_if_clones_equal
    (λ x y same. same) ∙ c.without_lf.ensures in
    record {
      all = ap (λ (lines : List (List ℕ)). lines ++ map without_lf c.next.new.self) (c.in_ok-push.ensures.items)
          ∙ (append_assoc c.lines.lines.items (c.in_ok-line.line.items ∷ []) (map without_lf c.next.new.self)
          ∙ (ap (λ (l : List ℕ). c.lines.lines.items ++ l ∷ map without_lf c.next.new.self) line
          ∙ (ap (λ (rest : List (List ℕ)). c.lines.lines.items ++ map without_lf rest) (sym c.in-Some.ensures.steps)
          ∙ c.lines.invariant.all)));
      can = tt;
      ends = tt;
    }
