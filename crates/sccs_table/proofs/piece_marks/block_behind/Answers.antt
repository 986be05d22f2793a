use Rattle.std.proofs.Common.{◌≡◌, ◌+◌, ◌-◌, ◌∙◌, ap, arith, sym}
use Rattle.std.specs.Int.{bit_at}
use Rattle.std.proofs.lemmas.Nat.Bits.{bit_at-zero}
use Rattle.sccs_table.proofs.MarkLaws.{bit_within, clear_behind}
use Rattle.sccs_table.proofs.piece_marks.block_behind.Goals as goal

pub returns-then-behind-eq0 : goal.returns-then-behind-eq0
returns-then-behind-eq0 c = λ m low high.
    clear_behind c.args.marked _ c.args.n (64 - (c.args.n + 1)) (λ k. c.shifted_down-behind.ensures k
    ∙ c.shifted_down.ensures (1 + k)) (λ k below. ap (λ b. bit_at b k) c.if-behind-eq0.true ∙ bit_at-zero k) m low
    (omega arith)

pub returns-else-behind-eq0 : goal.returns-else-behind-eq0
returns-else-behind-eq0 c =
    let at : c.args.n + 1 + c.lowest.result ≡ c.args.n + (1 + c.lowest.result) = omega arith in
    let set : bit_at c.args.marked (c.args.n + 1 + c.lowest.result) ≡ 1 = ap (bit_at c.args.marked) at
    ∙ (sym (c.shifted_down-behind.ensures c.lowest.result ∙ c.shifted_down.ensures (1 + c.lowest.result))
    ∙ c.lowest.ensures.set) in (
      omega arith,
      bit_within c.args.marked _ c.ranges.marked.fits set,
      clear_behind c.args.marked _ c.args.n
          c.lowest.result (λ k. c.shifted_down-behind.ensures k ∙ c.shifted_down.ensures (1 + k))
          c.lowest.ensures.below,
      set,
    )
