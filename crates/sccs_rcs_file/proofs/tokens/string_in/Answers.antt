use Rattle.std.proofs.Common.{arith}
use Rattle.sccs_rcs_file.proofs.Strings.{string_ends, string_goes_on}
use Rattle.sccs_rcs_file.proofs.tokens.string_in.Goals as goal

pub returns-then-more-eq0-clause-value : goal.returns-then-more-eq0-clause-value
returns-then-more-eq0-clause-value c =
    string_ends c.args.bytes.now c.bytes.len (c.raw_len-more.ensures.ended (omega (arith, c.if-more-eq0.true)))
    c.bytes.invariant.1

pub bytes-preserved : goal.bytes-preserved
bytes-preserved c = (
  omega (arith, c.raw_len-more.ensures.within, c.bytes-test.true),
  string_goes_on c.args.bytes.now c.bytes.len c.raw_len-more.result (c.raw_len-more.ensures.more
      (omega (arith, c.if-more-eq0.false))) c.bytes.invariant.1,
)
