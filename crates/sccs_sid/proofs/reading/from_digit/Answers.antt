use Rattle.sccs_sid.specs.Reading.{is_no_digit}
use Rattle.sccs_sid.proofs.Skips.{skip_step, skip_stop, skip_all, digit_stops, other_passes}
use Rattle.sccs_sid.proofs.reading.from_digit.Goals as goal

pub returns-then-is_ascii_digit-clause-value : goal.returns-then-is_ascii_digit-clause-value
returns-then-is_ascii_digit-clause-value c =
    skip_stop is_no_digit c.args.bytes.now c.loop-at.at c.args.bytes.now c.loop-at-test.true
    (digit_stops _ c.if-is_ascii_digit.ensures.cases) c.loop-at.invariant

pub loop-at-preserved : goal.loop-at-preserved
loop-at-preserved c =
    skip_step is_no_digit c.args.bytes.now c.loop-at.at c.args.bytes.now c.loop-at-test.true
    (other_passes _ c.if-is_ascii_digit.ensures.cases) c.loop-at.invariant

pub returns-clause-value : goal.returns-clause-value
returns-clause-value c = skip_all is_no_digit c.args.bytes.now c.loop-at.at c.args.bytes.now c.loop-at-test.false
    c.loop-at.invariant
