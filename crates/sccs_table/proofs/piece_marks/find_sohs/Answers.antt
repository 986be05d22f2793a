use Rattle.std.proofs.Common.{◌+◌, ◌%◌, ◌∙◌, ap, arith, rules}
use Rattle.std.specs.Prelude.{not, sum, ◌==◌}
use Rattle.std.proofs.lemmas.List.{get_or-set_other, get_or-set_same}
use Rattle.sccs_table.specs.Marks.{bit}
use Rattle.sccs_table.proofs.MarkLaws.{marked_on, sohs_on, sum_block}
use Rattle.sccs_table.proofs.ZeroLaws.{marked_all, sohs_all, sum_all}
use Rattle.sccs_table.proofs.piece_marks.find_sohs.Goals as goal

pub loop-n-preserved : goal.loop-n-preserved
loop-n-preserved c =
    let n = c.loop-n.n in
    let old = c.loop-n.invariant in
    record {
      marked = marked_on c.args.piece.now c.loop-n.marked c.with_bit-marked.result n old.marked
          c.with_bit-marked.ensures.kept (c.with_bit-marked.ensures.last (old.above n (omega arith))
          ∙ ap (λ b. bit (not (b == 0))) c.bits_at-bits.ensures);
      sohs = sohs_on c.args.piece.now c.loop-n.sohs _ n old.sohs
          (λ m low. get_or-set_other c.loop-n.sohs n m c.bits_at-bits.result 0 (λ is. omega arith))
          (get_or-set_same c.loop-n.sohs n c.bits_at-bits.result 0 (omega (arith, old.long))
          ∙ c.bits_at-bits.ensures);
      above = λ k low. c.with_bit-marked.ensures.above k (omega arith) (old.above k (omega arith));
      long = search rules;
      end = search rules;
      sum = sum_block c.args.piece.now n c.loop-n.total c.sum_with-total.result old.sum (c.sum_with-total.ensures
          ∙ ap (λ l. (c.loop-n.total + sum l) % 65536) c.lanes_of.ensures);
    }

pub returns-clause-marked : goal.returns-clause-marked
returns-clause-marked c = marked_all c.args.piece.now c.loop-n.marked c.loop-n.n c.args.blocks c.loop-n-test.false
    c.loop-n.invariant.marked c.loop-n.invariant.above c.requires.rest

pub returns-clause-sohs : goal.returns-clause-sohs
returns-clause-sohs c = sohs_all c.args.piece.now c.loop-n.sohs c.put_behind.new.numbers c.loop-n.n c.args.blocks
    c.loop-n-test.false c.loop-n.invariant.sohs c.loop-n.invariant.long c.put_behind.ensures.front
    c.put_behind.ensures.rest c.requires.rest

pub returns-clause-sum : goal.returns-clause-sum
returns-clause-sum c = sum_all c.args.piece.now c.loop-n.total c.loop-n.n c.args.blocks
    (omega (arith, c.loop-n-test.false, c.loop-n.invariant.end)) c.requires.rest c.loop-n.invariant.sum
