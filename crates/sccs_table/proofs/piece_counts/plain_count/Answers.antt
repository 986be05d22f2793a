use Rattle.std.proofs.Common.{◌≡◌, arith, subst}
use Rattle.sccs_table.specs.BlockCounts.{CountedTo}
use Rattle.sccs_table.proofs.MarkLaws.{none_below}
use Rattle.sccs_table.proofs.piece_counts.plain_count.Goals as goal

pub loop-n-init : goal.loop-n-init
loop-n-init c = record {
  end = omega arith;
  counted = c.new-count.ensures c.args.piece.now;
  below = λ m k low within. absurd (omega (arith, low));
}

pub of_piece-requires-clause-all : goal.of_piece-requires-clause-all
of_piece-requires-clause-all c =
    let all : c.loop-n.n ≡ 64 = omega (arith, c.loop-n-test.false, c.loop-n.invariant.end) in
    subst (CountedTo c.loop-n.count c.args.piece.now) all c.loop-n.invariant.counted

pub returns-clause-none : goal.returns-clause-none
returns-clause-none c = λ n low. none_below c.loop-n.least c.args.piece.now n c.requires low
    (λ k within. c.loop-n.invariant.below n k (omega (arith, low, c.loop-n-test.false)) within)
    (c.has_low.ensures c.if-has_low.false)
