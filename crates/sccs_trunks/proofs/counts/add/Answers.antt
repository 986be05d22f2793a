use Rattle.std.proofs.Common.{◌∙◌, ap, arith}
use Rattle.sccs_trunks.specs.Counts.{both}
use Rattle.sccs_trunks.proofs.Tallies.{more_at, more_outside, more_zero}
use Rattle.sccs_trunks.proofs.counts.add.Goals as goal

pub returns-in_default : goal.returns-in_default
returns-in_default c = more_zero c.args.serial c.args.more c.args.tallies.now.items
    (omega (arith, c.in_default.ensures, c.from.ensures))

pub returns-then-len-at : goal.returns-then-len-at
returns-then-len-at c = more_outside c.args.serial c.args.more c.args.tallies.now.items
    (omega (arith, c.in-Some.ensures, c.from.ensures, c.len.ensures, c.if-len-at.true))

pub returns : goal.returns
returns c =
    more_at c.args.serial c.in-Some.at c.args.more c.in_ok-sum.sum c.index.result.now c.args.tallies.now.items
    (omega (arith, c.in-Some.ensures, c.from.ensures)) (omega (arith, c.len.ensures, c.if-len-at.false))
    (c.in_ok-sum.ensures ∙ ap (λ t. both t c.args.more) c.index.ensures)
