use Rattle.std.proofs.Common.{◌+◌, ◌*◌, ◌%◌, ◌∙◌, ap, arith, rules}
use Rattle.std.specs.Prelude.{count_ones, not, sum, ◌==◌}
use Rattle.std.proofs.lemmas.List.{get_or-set_other, get_or-set_same}
use Rattle.sccs_table.specs.Marks.{bit}
use Rattle.sccs_table.proofs.MarkLaws.{count_block, count_bound, described_on, marked_on, sohs_on, sum_block}
use Rattle.sccs_table.proofs.ZeroLaws.{counted_last, described_all, marked_all, sohs_all, sum_all}
use Rattle.sccs_table.proofs.piece_marks.describe.Goals as goal

pub overflow_add-count : goal.overflow_add-count
overflow_add-count c =
    let n = c.loop-n.n in
    omega (
      arith,
      c.loop-n.invariant.count,
      c.loop-n.invariant.end,
      c.from-count.ensures,
      ap count_ones c.bits_at-bits.ensures,
      count_block c.args.piece.now n,
      count_bound c.args.piece.now
          (64 * (n + 1)),
      c.loop-n-test.true,
    )

pub loop-n-preserved : goal.loop-n-preserved
loop-n-preserved c =
    let n = c.loop-n.n in
    let old = c.loop-n.invariant in
    record {
      blocks = described_on c.loop-n.ends c.loop-n.before _ _ c.args.piece.now n old.blocks
          (λ m low. get_or-set_other c.loop-n.ends n m c.bits_at-bits.result 0 (λ is. omega arith))
          (get_or-set_same c.loop-n.ends n c.bits_at-bits.result 0 (omega (arith, old.ends))
          ∙ c.bits_at-bits.ensures)
          (λ m low. get_or-set_other c.loop-n.before n m c.loop-n.count 0 (λ is. omega arith))
          (get_or-set_same c.loop-n.before n c.loop-n.count 0 (omega (arith, old.before)) ∙ old.count);
      marked = marked_on c.args.piece.now c.loop-n.marked c.with_bit-marked.result n old.marked
          c.with_bit-marked.ensures.kept (c.with_bit-marked.ensures.last (old.above n (omega arith))
          ∙ ap (λ b. bit (not (b == 0))) c.bits_at-found.ensures);
      found = sohs_on c.args.piece.now c.loop-n.sohs _ n old.found
          (λ m low. get_or-set_other c.loop-n.sohs n m c.bits_at-found.result 0 (λ is. omega arith))
          (get_or-set_same c.loop-n.sohs n c.bits_at-found.result 0 (omega (arith, old.sohs))
          ∙ c.bits_at-found.ensures);
      count = omega (
        arith,
        old.count,
        c.from-count.ensures,
        ap count_ones c.bits_at-bits.ensures,
        count_block c.args.piece.now n,
      );
      above = λ k low. c.with_bit-marked.ensures.above k (omega arith) (old.above k (omega arith));
      ends = search rules;
      before = search rules;
      sohs = search rules;
      end = search rules;
      sum = sum_block c.args.piece.now n c.loop-n.total c.sum_with-total.result old.sum (c.sum_with-total.ensures
          ∙ ap (λ l. (c.loop-n.total + sum l) % 65536) c.lanes_of.ensures);
    }

pub returns-clause-marked : goal.returns-clause-marked
returns-clause-marked c = marked_all c.args.piece.now c.loop-n.marked c.loop-n.n c.args.blocks c.loop-n-test.false
    c.loop-n.invariant.marked c.loop-n.invariant.above c.requires.rest

pub returns-clause-sohs : goal.returns-clause-sohs
returns-clause-sohs c = sohs_all c.args.piece.now c.loop-n.sohs c.put_behind.new.numbers c.loop-n.n c.args.blocks
    c.loop-n-test.false c.loop-n.invariant.found c.loop-n.invariant.sohs c.put_behind.ensures.front
    c.put_behind.ensures.rest c.requires.rest

pub returns-clause-sum : goal.returns-clause-sum
returns-clause-sum c = sum_all c.args.piece.now c.loop-n.total c.loop-n.n c.args.blocks
    (omega (arith, c.loop-n-test.false, c.loop-n.invariant.end)) c.requires.rest c.loop-n.invariant.sum

pub returns-clause-blocks : goal.returns-clause-blocks
returns-clause-blocks c =
    described_all c.args.piece.now c.loop-n.ends c.loop-n.before c.put_behind-2.new.numbers c.put_behind-3.new.numbers
    c.loop-n.n c.args.blocks c.loop-n.count (omega (arith, c.loop-n-test.false, c.loop-n.invariant.end)) c.requires.fits
    c.loop-n.invariant.blocks c.loop-n.invariant.ends c.loop-n.invariant.before c.put_behind-2.ensures.front
    c.put_behind-2.ensures.rest c.put_behind-3.ensures.front c.put_behind-3.ensures.rest c.loop-n.invariant.count
    c.requires.rest

pub returns-clause-all : goal.returns-clause-all
returns-clause-all c = counted_last c.args.piece.now c.loop-n.before c.put_behind-3.new.numbers c.loop-n.n c.args.blocks
    c.loop-n.count (omega (arith, c.loop-n-test.false, c.loop-n.invariant.end)) c.requires.fits c.requires.long
    c.loop-n.invariant.before c.put_behind-3.ensures.rest c.loop-n.invariant.count c.requires.rest
