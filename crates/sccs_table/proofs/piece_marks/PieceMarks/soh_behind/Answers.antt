use Rattle.std.proofs.Common.{◌+◌, ◌*◌, ◌∙◌, ap, arith, sym}
use Rattle.std.specs.Int.{bit_at}
use Rattle.sccs_table.proofs.MarkLaws.{first_here, no_soh_both, none_in_blocks, soh_at, some_bit, unmarked}
use Rattle.sccs_table.proofs.piece_marks.PieceMarks.soh_behind.Goals as goal

pub returns-in-Some-clause-none : goal.returns-in-Some-clause-none
returns-in-Some-clause-none c =
    let piece = c.args.piece.now in
    let next = c.in-Some.next in
    let before = none_in_blocks piece (c.args.n + 1) next (omega (arith, c.in-Some.ensures.1, c.requires.marks.long))
    (λ m low high. unmarked c.args.self.now piece m c.requires.marks (omega (arith, c.in-Some.ensures.1))
    (c.in-Some.ensures.2 m (omega arith) high)) in
    let known = c.requires.marks.sohs_are (some_bit _ next c.in-Some.ensures.3) next c.in-Some.ensures.1 in
    let within = first_here piece next c.lowest.result (omega (arith, c.in-Some.ensures.1, c.requires.marks.long))
    (omega (arith, c.lowest.ensures.bound)) (λ k below. ap (λ b. bit_at b k) (sym known)
    ∙ c.lowest.ensures.below k below) in
    no_soh_both piece (64 * (c.args.n + 1)) (64 * next) (64 * next + c.lowest.result) before within

pub returns-in-Some-clause-first : goal.returns-in-Some-clause-first
returns-in-Some-clause-first c =
    let known = c.requires.marks.sohs_are (some_bit _ c.in-Some.next c.in-Some.ensures.3) c.in-Some.next
    c.in-Some.ensures.1 in
    λ low. soh_at c.args.piece.now c.in-Some.next c.lowest.result
    (omega (arith, c.in-Some.ensures.1, c.requires.marks.long)) c.lowest.ensures.bound
    (ap (λ b. bit_at b c.lowest.result) (sym known) ∙ c.lowest.ensures.set)

pub returns-in-None-clause-none : goal.returns-in-None-clause-none
returns-in-None-clause-none c = none_in_blocks c.args.piece.now (c.args.n + 1) 64 (omega (arith, c.requires.marks.long))
    (λ m low high. unmarked c.args.self.now c.args.piece.now m c.requires.marks high
    (c.in-None.ensures m (omega arith) high))
