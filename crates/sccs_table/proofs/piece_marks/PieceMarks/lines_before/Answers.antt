use Rattle.std.proofs.Common.{arith, subst}
use Rattle.sccs_table.specs.Marks.{KnowsLfs}
use Rattle.sccs_table.proofs.MarkLaws.{count_bound, counted_all, lines_at}
use Rattle.sccs_table.proofs.piece_marks.PieceMarks.lines_before.Goals as goal

pub overflow_add-result : goal.overflow_add-result
overflow_add-result c =
    let known = subst (λ k. KnowsLfs k c.args.self.now c.args.piece.now) c.in-Places.is c.requires.marks.ends_known in
    omega (
      arith,
      lines_at _ _ c.args.piece.now c.args.at c.from.result known.0 known.1 c.requires.marks.long
          c.requires.fits c.from.ensures,
      count_bound c.args.piece.now c.args.at,
    )

pub returns-in-Places : goal.returns-in-Places
returns-in-Places c =
    let known = subst (λ k. KnowsLfs k c.args.self.now c.args.piece.now) c.in-Places.is c.requires.marks.ends_known in
    lines_at _ _ c.args.piece.now c.args.at c.from.result known.0 known.1 c.requires.marks.long c.requires.fits
    c.from.ensures

pub returns-then-at-self : goal.returns-then-at-self
returns-then-at-self c =
    let known = subst (λ k. KnowsLfs k c.args.self.now c.args.piece.now) c.in-Number.is c.requires.marks.ends_known in
    counted_all c.args.piece.now c.args.self.now.count c.args.self.now.last c.args.at known.0 known.1 c.if-at-self.true
