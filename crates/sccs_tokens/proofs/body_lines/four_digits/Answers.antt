use Rattle.std.proofs.Common.{◌∙◌, Ok, ap, arith, refl}
use Rattle.sccs_sid.specs.Reading.{digits_after}
use Rattle.sccs_tokens.proofs.LongSerialLaws.{four_read}
use Rattle.sccs_tokens.proofs.body_lines.four_digits.Goals as goal

pub returns-then-are_digits-clause-read : goal.returns-then-are_digits-clause-read
returns-then-are_digits-clause-read c = λ rest.
    let are = c.if-are_digits.ensures refl in
    four_read c.args.a c.args.b c.args.c c.args.d c.digit.result c.digit-2.result c.digit-3.result c.digit-4.result
    (c.digit.ensures.value are.1, are.1) (c.digit-2.ensures.value are.2, are.2) (c.digit-3.ensures.value are.3, are.3)
    (c.digit-4.ensures.value are.4, are.4) rest
    ∙ ap (λ n. Ok (digits_after 1 n rest)) (omega (
      arith,
      c.from.ensures,
      c.from-then-are_digits.ensures,
      c.from-then-are_digits-2.ensures,
      c.from-then-are_digits-3.ensures,
    ))
