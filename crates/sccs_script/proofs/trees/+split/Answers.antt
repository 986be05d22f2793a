use Rattle.std.proofs.Common.{◌≡◌, ◌++◌, ◌-◌, IfOk, length, take, drop, sym, subst, ap, ◌∙◌, arith, rules}
use Rattle.sccs_script.specs.Drafts.{expand}
use Rattle.sccs_script.specs.Trees.{tree_lines}
use Rattle.sccs_script.specs.declared.trees.Fork.{Fork}
use Rattle.sccs_script.proofs.TreeLaws.{middle_back, middle_front, right_back, right_front}
use Rattle.sccs_script.proofs.trees.+split.Goals as goal

pub returns-then-within-lines-clause-front : goal.returns-then-within-lines-clause-front
returns-then-within-lines-clause-front t c =
    let f : Fork = c.into_inner-left.result in
    let opened : c.into_inner-left.result ≡ c.in-Fork.fork.value = search rules in
    let whole : f.left ++ (expand f.piece ++ f.right) ≡ c.args.tree =
    ap (λ (g : Fork). g.left ++ (expand g.piece ++ g.right)) opened ∙ (sym (ap tree_lines c.in-Fork.is)
    ∙ c.tree.view_is) in
    subst (λ l. IfOk c.split_piece.result (λ h. h.front ≡ l))
    (ap (λ n. f.left ++ take (c.args.place - n) (expand f.piece)) c.lines-before.ensures
    ∙ (middle_front c.args.place f.left (expand f.piece) f.right
    (omega (arith, c.if-place-before.false, c.lines-before.ensures))
    (omega (arith, c.if-within-lines.true, c.lines-before.ensures, c.count-lines.ensures))
    ∙ ap (take c.args.place) whole))
    c.split_piece.ensures.front

pub returns-then-within-lines-clause-back : goal.returns-then-within-lines-clause-back
returns-then-within-lines-clause-back t c =
    let f : Fork = c.into_inner-left.result in
    let opened : c.into_inner-left.result ≡ c.in-Fork.fork.value = search rules in
    let whole : f.left ++ (expand f.piece ++ f.right) ≡ c.args.tree =
    ap (λ (g : Fork). g.left ++ (expand g.piece ++ g.right)) opened ∙ (sym (ap tree_lines c.in-Fork.is)
    ∙ c.tree.view_is) in
    subst (λ l. IfOk c.split_piece.result (λ h. h.back ≡ l))
    (ap (λ n. drop (c.args.place - n) (expand f.piece) ++ f.right) c.lines-before.ensures
    ∙ (middle_back c.args.place f.left (expand f.piece) f.right
    (omega (arith, c.if-place-before.false, c.lines-before.ensures))
    (omega (arith, c.if-within-lines.true, c.lines-before.ensures, c.count-lines.ensures))
    ∙ ap (drop c.args.place) whole))
    c.split_piece.ensures.back

pub returns-in_ok-front-in-Fork-3-clause-front : goal.returns-in_ok-front-in-Fork-3-clause-front
returns-in_ok-front-in-Fork-3-clause-front t c =
    let f : Fork = c.into_inner-left.result in
    let opened : c.into_inner-left.result ≡ c.in-Fork.fork.value = search rules in
    let whole : f.left ++ (expand f.piece ++ f.right) ≡ c.args.tree =
    ap (λ (g : Fork). g.left ++ (expand g.piece ++ g.right)) opened ∙ (sym (ap tree_lines c.in-Fork.is)
    ∙ c.tree.view_is) in
    c.in_ok-front-in-Fork-3.ensures
    ∙ (ap (λ l. f.left ++ (expand f.piece ++ l)) c.in_ok-front-in-Fork-2.ensures.front
    ∙ (ap (λ n. f.left ++ (expand f.piece ++ take (c.args.place - n - c.count-lines.result) f.right))
    c.lines-before.ensures
    ∙ (ap (λ n. f.left ++ (expand f.piece ++ take (c.args.place - length f.left - n) f.right)) c.count-lines.ensures
    ∙ (right_front c.args.place f.left (expand f.piece) f.right
    (omega (arith, c.if-place-before.false, c.lines-before.ensures))
    (omega (arith, c.if-within-lines.false, c.lines-before.ensures, c.count-lines.ensures))
    ∙ ap (take c.args.place) whole))))

pub returns-in_ok-front-in-Fork-3-clause-back : goal.returns-in_ok-front-in-Fork-3-clause-back
returns-in_ok-front-in-Fork-3-clause-back t c =
    let f : Fork = c.into_inner-left.result in
    let opened : c.into_inner-left.result ≡ c.in-Fork.fork.value = search rules in
    let whole : f.left ++ (expand f.piece ++ f.right) ≡ c.args.tree =
    ap (λ (g : Fork). g.left ++ (expand g.piece ++ g.right)) opened ∙ (sym (ap tree_lines c.in-Fork.is)
    ∙ c.tree.view_is) in
    c.in_ok-front-in-Fork-2.ensures.back
    ∙ (ap (λ n. drop (c.args.place - n - c.count-lines.result) f.right) c.lines-before.ensures
    ∙ (ap (λ n. drop (c.args.place - length f.left - n) f.right) c.count-lines.ensures
    ∙ (right_back c.args.place f.left (expand f.piece) f.right
    (omega (arith, c.if-place-before.false, c.lines-before.ensures))
    (omega (arith, c.if-within-lines.false, c.lines-before.ensures, c.count-lines.ensures))
    ∙ ap (drop c.args.place) whole)))
