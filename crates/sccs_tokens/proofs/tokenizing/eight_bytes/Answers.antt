use Rattle.std.proofs.Common.{◌&&◌, nat_eq, slice_index_or}
use Rattle.std.proofs.lemmas.Bool.{and_parts, eqb-true}
use Rattle.sccs_tokens.proofs.EightByteWords.{eight_first}
use Rattle.sccs_tokens.proofs.tokenizing.eight_bytes.Goals as goal

pub returns-then-first-second : goal.returns-then-first-second
returns-then-first-second c =
    let first = c.are_no_blanks-first in
    let second = c.are_no_blanks-second in
    let last = slice_index_or c.args.bytes.now 8 0 in
    let tests = and_parts (first.result && second.result) (nat_eq last 32) c.if-first-second.true in
    let words = and_parts first.result second.result tests.0 in
    eight_first c.args.bytes.now c.in-len9-up.len_at_least (first.ensures words.0) (second.ensures words.1)
    (eqb-true last 32 tests.1)
