use Rattle.std.proofs.Common.{◌≡◌, suc, ◌-◌, take, sym, ap, ◌∙◌, arith}
use Rattle.sccs_sid.specs.Words.{drop_blanks}
use Rattle.sccs_sid.proofs.WordLemmas.{drop_step, drop_stop, drop_nothing}
use Rattle.sccs_sid.proofs.words.drop_blanks.Goals as goal
use Rattle.sccs_sid.proofs.words.drop_blanks.Goals.{then-blanks-test+else-bytes-end-eq-BLANK, else-blanks-test}

pub blanks-preserved : goal.blanks-preserved
blanks-preserved c =
    let bytes = c.args.bytes.now in
    let last : suc (c.blanks.end - 1) ≡ c.blanks.end = omega arith in (
      omega arith,
      drop_step bytes (c.blanks.end - 1) (omega arith) c.if-bytes-end-eq-BLANK.true
          ∙ (ap (λ n. drop_blanks (take n bytes)) last ∙ c.blanks.invariant.1),
    )

pub returns-clause-value : goal.returns-clause-value
returns-clause-value c =
    let bytes = c.args.bytes.now in
    elim c.blanks-test.branch [
      | then-blanks-test+else-bytes-end-eq-BLANK w ↦
          let last : suc (c.blanks.end - 1) ≡ c.blanks.end = omega arith in
          let stop = drop_stop bytes (c.blanks.end - 1) (omega arith) w.if-bytes-end-eq-BLANK.false in
          ap (λ n. take n bytes) (sym last) ∙ (stop ∙ (ap (λ n. drop_blanks (take n bytes)) last
          ∙ c.blanks.invariant.1))
      | else-blanks-test w ↦
          let none : c.blanks.end ≡ 0 = omega arith in
          ap (λ n. take n bytes) none ∙ (drop_nothing ∙ (ap (λ n. drop_blanks (take n bytes)) (sym none)
          ∙ c.blanks.invariant.1))
    ]
