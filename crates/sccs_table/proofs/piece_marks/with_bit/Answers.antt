use Rattle.std.proofs.Common.{◌∙◌, ap, arith, sym, w64}
use Rattle.sccs_table.specs.Marks.{bit}
use Rattle.std.proofs.lemmas.Nat.Bits.{bit_at_set_other, bit_at_set_same}
use Rattle.sccs_table.proofs.piece_marks.with_bit.Goals as goal

pub returns-then-set-clause-kept : goal.returns-then-set-clause-kept
returns-then-set-clause-kept c = λ k low. bit_at_set_other w64 c.args.bits c.args.at c.requires k (λ is. omega arith)

pub returns-then-set-clause-last : goal.returns-then-set-clause-last
returns-then-set-clause-last c = λ none. bit_at_set_same w64 c.args.bits c.args.at c.requires
    ∙ ap bit (sym c.if-set.true)

pub returns-then-set-clause-above : goal.returns-then-set-clause-above
returns-then-set-clause-above c = λ k high none. bit_at_set_other w64 c.args.bits c.args.at c.requires k
    (λ is. omega arith) ∙ none
