use Rattle.std.proofs.Common.{◌∙◌, sym, drop, eq-eqb}
use Rattle.std.proofs.lemmas.Bool.{ne_eqb}
use Rattle.sccs_sid.proofs.Skips.{skip_step, skip_stop, skip_all}
use Rattle.sccs_sid.proofs.WordLemmas.{is_blank, skip_blanks_is}
use Rattle.sccs_sid.proofs.words.skip_blanks.Goals as goal

pub returns-then-byte-ne-BLANK-clause-value : goal.returns-then-byte-ne-BLANK-clause-value
returns-then-byte-ne-BLANK-clause-value c =
    let so_far = sym (skip_blanks_is (drop c.loop-at.at c.args.bytes.now))
    ∙ (c.loop-at.invariant ∙ skip_blanks_is c.args.bytes.now) in
    skip_stop is_blank c.args.bytes.now c.loop-at.at c.args.bytes.now c.loop-at-test.true
    (ne_eqb _ 32 c.if-byte-ne-BLANK.true) so_far ∙ sym (skip_blanks_is c.args.bytes.now)

pub loop-at-preserved : goal.loop-at-preserved
loop-at-preserved c =
    let so_far = sym (skip_blanks_is (drop c.loop-at.at c.args.bytes.now))
    ∙ (c.loop-at.invariant ∙ skip_blanks_is c.args.bytes.now) in
    skip_blanks_is _ ∙ (skip_step is_blank c.args.bytes.now c.loop-at.at c.args.bytes.now c.loop-at-test.true
    (eq-eqb _ 32 c.if-byte-ne-BLANK.false) so_far ∙ sym (skip_blanks_is c.args.bytes.now))

pub returns-clause-value : goal.returns-clause-value
returns-clause-value c =
    let so_far = sym (skip_blanks_is (drop c.loop-at.at c.args.bytes.now))
    ∙ (c.loop-at.invariant ∙ skip_blanks_is c.args.bytes.now) in
    skip_all is_blank c.args.bytes.now c.loop-at.at c.args.bytes.now c.loop-at-test.false so_far
    ∙ sym (skip_blanks_is c.args.bytes.now)
