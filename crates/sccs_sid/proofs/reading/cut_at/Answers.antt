use Rattle.std.proofs.Common.{◌+◌, drop, Some, ap, ◌∙◌, arith, add-one}
use Rattle.sccs_sid.proofs.Digits.{rest_from}
use Rattle.sccs_sid.proofs.Separators.{until_at, behind_at, until_none, behind_none}
use Rattle.sccs_sid.proofs.reading.cut_at.Goals as goal

pub returns-then-byte-separator-clause-piece : goal.returns-then-byte-separator-clause-piece
returns-then-byte-separator-clause-piece c =
    until_at c.args.separator c.loop-at.at c.args.bytes.now c.loop-at-test.true c.if-byte-separator.true
    c.loop-at.invariant

pub returns-then-byte-separator-clause-rest : goal.returns-then-byte-separator-clause-rest
returns-then-byte-separator-clause-rest c =
    ap Some (rest_from (c.loop-at.at + 1) c.args.bytes.now ∙ ap (λ n. drop n c.args.bytes.now) (add-one c.loop-at.at))
    ∙ behind_at c.args.separator c.loop-at.at c.args.bytes.now c.loop-at-test.true c.if-byte-separator.true
    c.loop-at.invariant

pub returns-clause-piece : goal.returns-clause-piece
returns-clause-piece c = until_none c.args.separator c.args.bytes.now (λ k below. c.loop-at.invariant k (omega arith))

pub returns-clause-rest : goal.returns-clause-rest
returns-clause-rest c = behind_none c.args.separator c.args.bytes.now (λ k below. c.loop-at.invariant k (omega arith))
