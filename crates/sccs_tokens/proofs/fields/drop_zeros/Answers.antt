use Rattle.std.proofs.Common.{◌==◌, eq-eqb}
use Rattle.std.proofs.lemmas.Bool.{ne_eqb}
use Rattle.sccs_sid.proofs.Skips.{skip_step, skip_stop, skip_all}
use Rattle.sccs_tokens.proofs.fields.drop_zeros.Goals as goal

pub returns-then-byte-ne48 : goal.returns-then-byte-ne48
returns-then-byte-ne48 c =
    skip_stop (λ b. b == 48) c.args.bytes.now c.loop-at.at c.args.bytes.now c.loop-at-test.true
    (ne_eqb _ 48 c.if-byte-ne48.true) c.loop-at.invariant

pub loop-at-preserved : goal.loop-at-preserved
loop-at-preserved c =
    skip_step (λ b. b == 48) c.args.bytes.now c.loop-at.at c.args.bytes.now c.loop-at-test.true
    (eq-eqb _ 48 c.if-byte-ne48.false) c.loop-at.invariant

pub returns : goal.returns
returns c = skip_all (λ b. b == 48) c.args.bytes.now c.loop-at.at c.args.bytes.now c.loop-at-test.false
    c.loop-at.invariant
