use Rattle.std.proofs.Common.{◌≡◌, ◌+◌, ◌-◌, ◌*◌, ◌/◌, ◌%◌, ◌∙◌, ap, arith, get_or, subst, sym}
use Rattle.std.specs.Int.{bit_at}
use Rattle.std.proofs.lemmas.Nat.Bits.{bit_at-zero}
use Rattle.sccs_table.proofs.MarkLaws.{bit_within, bits_small, first_in, no_soh_both, none_marked, soh_at}
use Rattle.sccs_table.proofs.piece_marks.PieceMarks.soh_from.Goals as goal

pub returns-then-bits-eq0-clause-none : goal.returns-then-bits-eq0-clause-none
returns-then-bits-eq0-clause-none c =
    let piece = c.args.piece.now in
    let n = c.args.from / 64 in
    let off = c.args.from % 64 in
    let known = c.requires.marks.sohs_are c.if-self-eq0.false n (omega arith) in
    let here = first_in piece n off (64 - off) (omega (arith, c.requires.marks.long)) (omega arith)
    (λ k below. ap (λ b. bit_at b (off + k)) (sym known) ∙ (sym (c.shifted_down-bits.ensures k)
    ∙ (ap (λ b. bit_at b k) c.if-bits-eq0.true ∙ bit_at-zero k))) in
    no_soh_both piece c.args.from (64 * (n + 1)) c.soh_behind.result (λ k low high. here k (omega arith) (omega arith))
    c.soh_behind.ensures.none

pub returns-clause-high : goal.returns-clause-high
returns-clause-high c =
    let n = c.args.from / 64 in
    let off = c.args.from % 64 in
    let known = c.requires.marks.sohs_are c.if-self-eq0.false n (omega arith) in
    let set = ap (λ b. bit_at b (off + c.lowest.result)) (sym known)
    ∙ (sym (c.shifted_down-bits.ensures c.lowest.result) ∙ c.lowest.ensures.set) in
    omega (
      arith,
      bit_within _ (off + c.lowest.result) (bits_small c.args.piece.now n
          (omega (arith, c.requires.marks.long))) set,
    )

pub returns-clause-none : goal.returns-clause-none
returns-clause-none c =
    let piece = c.args.piece.now in
    let n = c.args.from / 64 in
    let off = c.args.from % 64 in
    let known = c.requires.marks.sohs_are c.if-self-eq0.false n (omega arith) in
    let set = ap (λ b. bit_at b (off + c.lowest.result)) (sym known)
    ∙ (sym (c.shifted_down-bits.ensures c.lowest.result) ∙ c.lowest.ensures.set) in
    let within = bit_within _ (off + c.lowest.result) (bits_small piece n (omega (arith, c.requires.marks.long))) set in
    let here = first_in piece n off c.lowest.result (omega (arith, c.requires.marks.long)) (omega (arith, within))
    (λ k below. ap (λ b. bit_at b (off + k)) (sym known) ∙ (sym (c.shifted_down-bits.ensures k)
    ∙ c.lowest.ensures.below k below)) in
    λ k low high. here k (omega arith) (omega arith)

pub returns-clause-first : goal.returns-clause-first
returns-clause-first c =
    let piece = c.args.piece.now in
    let n = c.args.from / 64 in
    let off = c.args.from % 64 in
    let known = c.requires.marks.sohs_are c.if-self-eq0.false n (omega arith) in
    let set = ap (λ b. bit_at b (off + c.lowest.result)) (sym known)
    ∙ (sym (c.shifted_down-bits.ensures c.lowest.result) ∙ c.lowest.ensures.set) in
    let within = bit_within _ (off + c.lowest.result) (bits_small piece n (omega (arith, c.requires.marks.long))) set in
    let at : 64 * n + (off + c.lowest.result) ≡ c.args.from + c.lowest.result = omega arith in
    λ low. subst (λ k. get_or piece k 0 ≡ 1) at (soh_at piece n (off + c.lowest.result)
    (omega (arith, c.requires.marks.long)) within set)

pub returns-then-self-eq0-clause-none : goal.returns-then-self-eq0-clause-none
returns-then-self-eq0-clause-none c = none_marked c.args.self.now c.args.piece.now c.args.from c.requires.marks
    c.if-self-eq0.true
