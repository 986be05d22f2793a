use Rattle.std.proofs.Common.{◌-◌, ◌∙◌, length, decimal, sym, arith}
use Rattle.sccs_tokens.proofs.ControlLaws.{clash, count_is, no_fault, same_serial, some_pair, test_holds, written_so}
use Rattle.sccs_tokens.proofs.body_lines.any_serial.Goals as goal

pub returns-in_default-clause-again : goal.returns-in_default-clause-again
returns-in_default-clause-again c = λ n rest is at. no_fault n c.in_default.field-0 rest c.args.bytes.now is at
    c.in_default.ensures.value

pub returns-then-is_written-clause-sound : goal.returns-then-is_written-clause-sound
returns-then-is_written-clause-sound c =
    written_so c.args.bytes.now c.in-Ok.rest.now c.in-Ok.n (length c.args.bytes.now - length c.in-Ok.rest.now)
    c.in-Ok.ensures.value (sym c.is_written.ensures ∙ c.if-is_written.true) (omega (arith, c.in-Ok.ensures.shorter))

pub returns-then-is_written-clause-again : goal.returns-then-is_written-clause-again
returns-then-is_written-clause-again c = λ n rest is at.
    let count = length c.args.bytes.now - length c.in-Ok.rest.now in
    let same = same_serial n c.in-Ok.n rest c.in-Ok.rest.now c.args.bytes.now is at c.in-Ok.ensures.value in
    some_pair c.in-Ok.n n count (length (decimal n)) same.0 (count_is n c.in-Ok.n count rest c.in-Ok.rest.now
    c.args.bytes.now is at c.in-Ok.ensures.value (omega (arith, c.in-Ok.ensures.shorter)))

pub returns-else-is_written-clause-again : goal.returns-else-is_written-clause-again
returns-else-is_written-clause-again c = λ n rest is at.
    clash _ c.is_written.result (sym c.is_written.ensures) c.if-is_written.false
    (test_holds n c.in-Ok.n rest c.in-Ok.rest.now c.args.bytes.now is at c.in-Ok.ensures.value)
