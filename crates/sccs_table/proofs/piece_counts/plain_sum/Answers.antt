use Rattle.std.proofs.Common.{◌≤◌, ◌+◌, ◌%◌, ◌∙◌, ap, arith, get_or}
use Rattle.std.specs.Prelude.{sum}
use Rattle.sccs_table.specs.Marks.{byte_block}
use Rattle.sccs_table.proofs.MarkLaws.{none_below, on_to, sum_block}
use Rattle.sccs_table.proofs.piece_counts.plain_sum.Goals as goal

pub loop-n-preserved : goal.loop-n-preserved
loop-n-preserved c =
    let n = c.loop-n.n in
    let piece = c.args.piece.now in
    let old = c.loop-n.invariant in
    record {
      end = omega (arith, c.loop-n-test.true);
      sum = sum_block piece n c.loop-n.total c.sum_with-total.result old.sum (c.sum_with-total.ensures
          ∙ ap (λ l. (c.loop-n.total + sum l) % 65536) c.lanes_of-lanes.ensures);
      below = λ m k low within. on_to (λ m. get_or c.least_of-least.result k 0 ≤ get_or (byte_block m piece) k 0) n
          (λ m before. omega (arith, c.least_of-least.ensures.before k within, old.below m k before within))
          (omega (arith, c.least_of-least.ensures.here k within, ap (λ l. get_or l k 0) c.lanes_of-lanes.ensures)) m
          low;
    }

pub returns-else-has_low-clause-none : goal.returns-else-has_low-clause-none
returns-else-has_low-clause-none c = λ n low. none_below c.loop-n.least c.args.piece.now n c.requires low
    (λ k within. c.loop-n.invariant.below n k (omega (arith, low, c.loop-n-test.false)) within)
    (c.has_low.ensures c.if-has_low.false)
