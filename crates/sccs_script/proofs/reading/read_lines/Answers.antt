use Rattle.std.proofs.Common.{◌+◌, ◌<◌, [], ◌∷◌, ◌++◌, List, ℕ, length, drop, inr, sym, subst, ap, IfSome, ◌∙◌, arith}
use Rattle.sccs_script_laws.specs.declared.scripts.Order.{Order}
use Rattle.std.specs.List.{AllByRecursion}
use Rattle.sccs_script.specs.Commands.{at_end, FitsIn, orders_from, TurnFits}
use Rattle.sccs_script.proofs.OneTurn.{behind_turn, fit_push, no_line, one_turn}
use Rattle.sccs_script.proofs.reading.read_lines.Goals as goal
use Rattle.sccs_script.proofs.reading.read_lines.Goals.{in-Whole+in-Ok-push, in-Open}

pub returns-in-Bad-clause-err : goal.returns-in-Bad-clause-err
returns-in-Bad-clause-err c =
    let lines : List (List ℕ) = c.args.lines.now in
    let orders : List Order = c.loop-place.orders.items in
    inr (sym c.loop-place.invariant.all
    ∙ (one_turn orders c.loop-place.text c.loop-place.place lines c.at.result.now c.in-Ok.next
    (omega (arith, c.loop-place-test.true, c.len-place-end.ensures)) c.at.ensures c.in-Ok.ensures.value
    ∙ ap (λ t. behind_turn orders t (c.loop-place.place + 1) (drop (c.loop-place.place + 1) lines)) c.in-Bad.is))

pub loop-place-preserved : goal.loop-place-preserved
loop-place-preserved c =
    let lines : List (List ℕ) = c.args.lines.now in
    let orders : List Order = c.loop-place.orders.items in
    let place : ℕ = c.loop-place.place in
    let low : place < length lines = omega (arith, c.loop-place-test.true, c.len-place-end.ensures) in
    let step = one_turn orders c.loop-place.text place lines c.at.result.now c.in-Ok.next low c.at.ensures
    c.in-Ok.ensures.value in
    record {
      all = elim c.match-next.branch [
        | in-Whole+in-Ok-push w ↦ ap (λ l. orders_from l c.match-next.text (place + 1) (drop (place + 1) lines))
            (ap (λ v. v.items) w.orders-is ∙ w.in-Ok-push.ensures.items)
            ∙ (ap (λ t. orders_from (orders ++ w.in-Whole.order ∷ []) t (place + 1) (drop (place + 1) lines)) w.text-is
            ∙ (ap (λ t. behind_turn orders t (place + 1) (drop (place + 1) lines)) (sym w.in-Whole.is)
            ∙ (sym step ∙ c.loop-place.invariant.all)))
        | in-Open w ↦ ap (λ l. orders_from l c.match-next.text (place + 1) (drop (place + 1) lines))
            (ap (λ v. v.items) w.orders-is)
            ∙ (ap (λ t. orders_from orders t (place + 1) (drop (place + 1) lines)) w.text-is
            ∙ (ap (λ t. behind_turn orders t (place + 1) (drop (place + 1) lines)) (sym w.in-Open.is)
            ∙ (sym step ∙ c.loop-place.invariant.all)))
      ];
      fits = elim c.match-next.branch [
        | in-Whole+in-Ok-push w ↦ subst (AllByRecursion (FitsIn 18446744073709551616))
            (sym (ap (λ v. v.items) w.orders-is ∙ w.in-Ok-push.ensures.items))
            (fit_push orders w.in-Whole.order (place + 1 + 1) c.loop-place.invariant.fits
            (omega (arith, low, c.len-place-end.ensures)) (subst (TurnFits (place + 1 + 1)) w.in-Whole.is
            c.in-Ok.ensures.fits))
        | in-Open w ↦ subst (AllByRecursion (FitsIn 18446744073709551616)) (sym (ap (λ v. v.items) w.orders-is))
            c.loop-place.invariant.fits
      ];
      text = elim c.match-next.branch [
        | in-Whole+in-Ok-push w ↦ subst (λ t. IfSome t (FitsIn (place + 1 + 1))) (sym w.text-is) tt
        | in-Open w ↦ subst (λ t. IfSome t (FitsIn (place + 1 + 1))) (sym w.text-is)
            (subst (TurnFits (place + 1 + 1)) w.in-Open.is c.in-Ok.ensures.fits)
      ];
    }

pub returns-in-Some-clause-err : goal.returns-in-Some-clause-err
returns-in-Some-clause-err c =
    inr (sym c.loop-place.invariant.all
    ∙ (no_line c.loop-place.orders.items c.loop-place.text c.loop-place.place c.args.lines.now
    (omega (arith, c.loop-place-test.false, c.len-place-end.ensures))
    ∙ ap (at_end c.loop-place.orders.items) c.in-Some.is))

pub returns-in-None-clause-ok : goal.returns-in-None-clause-ok
returns-in-None-clause-ok c =
    sym c.loop-place.invariant.all
    ∙ (no_line c.loop-place.orders.items c.loop-place.text c.loop-place.place c.args.lines.now
    (omega (arith, c.loop-place-test.false, c.len-place-end.ensures))
    ∙ ap (at_end c.loop-place.orders.items) c.in-None.is)
