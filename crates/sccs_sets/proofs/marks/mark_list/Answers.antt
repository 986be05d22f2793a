use Rattle.std.proofs.Common.{ℕ, ◌+◌, List, Bool, Option, drop, get_or, slice_index_or, None, refl, sym, ap, ◌∙◌, arith}
use Rattle.std.proofs.lemmas.List.{at_drop_more, at_drop_all}
use Rattle.sccs_sets.specs.Marks.{or_else, said_by}
use Rattle.sccs_sets.proofs.Passing.{said_more, else_none}
use Rattle.sccs_sets.proofs.marks.mark_list.Goals as goal

pub loop-number-init : goal.loop-number-init
loop-number-init c = (refl, λ n lt. refl)

pub loop-number-preserved : goal.loop-number-preserved
loop-number-preserved c =
    let i : ℕ = c.loop-number.number-index in
    let numbers : List ℕ = c.args.numbers.now in
    let rest : List ℕ = drop (i + 1) numbers in (
      c.mark.ensures.sized ∙ c.loop-number.invariant.0,
      λ n lt.
          let old : Option Bool = slice_index_or c.loop-number.marks n None in
          ap (λ o. or_else o (said_by rest c.args.value n))
          (c.mark.ensures.said n (omega (arith, lt, c.loop-number.invariant.0)))
          ∙ (said_more old (get_or numbers i 0) rest c.args.value n
          ∙ (sym (at_drop_more (λ l. or_else old (said_by l c.args.value n)) numbers i 0 c.loop-number-test.true)
          ∙ c.loop-number.invariant.1 n lt)),
    )

pub returns-clause-sized : goal.returns-clause-sized
returns-clause-sized c = c.loop-number.invariant.0

pub returns-clause-said : goal.returns-clause-said
returns-clause-said c = λ n lt.
    let old : Option Bool = slice_index_or c.loop-number.marks n None in
    sym (else_none old c.args.value n)
    ∙ (sym (at_drop_all (λ l. or_else old (said_by l c.args.value n)) c.args.numbers.now c.loop-number.number-index
    c.loop-number-test.false) ∙ c.loop-number.invariant.1 n lt)
