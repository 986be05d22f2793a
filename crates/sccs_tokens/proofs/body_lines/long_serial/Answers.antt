use Rattle.std.proofs.Common.{◌+◌, arith}
use Rattle.sccs_tokens.proofs.LongSerialLaws.{read_again, read_is, read_sound}
use Rattle.sccs_tokens.proofs.body_lines.long_serial.Goals as goal

pub returns-then-end-n-clause-sound : goal.returns-then-end-n-clause-sound
returns-then-end-n-clause-sound c =
    let found = c.with_digit-n.result in
    let four = c.in_ok-four.ensures in
    let behind = c.with_digit-n.ensures in
    let read = read_is c.args.bytes.now c.in_ok-four.four found.0 found.1 found.2 c.in-len6-up.len_at_least four.read
    behind.read behind.count c.if-end-n.true in
    read_sound c.args.bytes.now found.0 (4 + found.2) found.1 c.in-len6-up.len_at_least four.plain read
    (omega (arith, four.small.0, behind.more)) c.if-end-n.true

pub returns-then-end-n-clause-again : goal.returns-then-end-n-clause-again
returns-then-end-n-clause-again c = λ n rest is at.
    let found = c.with_digit-n.result in
    let behind = c.with_digit-n.ensures in
    let read = read_is c.args.bytes.now c.in_ok-four.four found.0 found.1 found.2 c.in-len6-up.len_at_least
    c.in_ok-four.ensures.read behind.read behind.count c.if-end-n.true in
    read_again c.args.bytes.now rest found.0 n (4 + found.2) read is at
