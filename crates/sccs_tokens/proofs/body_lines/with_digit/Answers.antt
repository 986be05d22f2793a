use Rattle.sccs_tokens.proofs.LongSerialLaws.{no_more, one_more}
use Rattle.sccs_tokens.proofs.body_lines.with_digit.Goals as goal

pub returns-then-last-lt10-clause-read : goal.returns-then-last-lt10-clause-read
returns-then-last-lt10-clause-read c = λ rest lf.
    one_more c.args.four c.args.e c.args.f c.digit-last.result rest (
      c.digit-last.ensures.value c.if-last-lt10.true,
      c.if-last-lt10.true,
    ) lf

pub returns-else-last-lt10-clause-read : goal.returns-else-last-lt10-clause-read
returns-else-last-lt10-clause-read c = λ rest lf. no_more c.args.four c.args.e c.args.f rest lf
