use Rattle.std.proofs.Common.{◌-◌, drop, Ok, ap, sym, ◌∙◌, arith}
use Rattle.sccs_sid.specs.Reading.{digits_after}
use Rattle.sccs_sid.proofs.Digits.{rest_is, room, pow_small, number_digit, number_other, number_none}
use Rattle.sccs_sid.proofs.reading.wide_number_at.Goals as goal

pub returns-in_default-clause-value : goal.returns-in_default-clause-value
returns-in_default-clause-value c = number_none c.args.most c.args.bytes.now c.in_default.ensures.value

pub returns-then-not-is_ascii_digit-clause-value : goal.returns-then-not-is_ascii_digit-clause-value
returns-then-not-is_ascii_digit-clause-value c =
    number_other c.args.most c.in-Some.digit.now c.args.bytes.now c.in-Some.ensures.value
    c.if-not-is_ascii_digit.ensures.cases

pub digits_after-requires : goal.digits_after-requires
digits_after-requires c =
    let more = room 0 c.args.most c.from.result c.requires.low
    (omega (arith, c.from.ensures, c.if-not-is_ascii_digit.ensures.cases)) in
    let least = pow_small c.args.most c.requires.high in
    omega arith

pub returns-clause-value : goal.returns-clause-value
returns-clause-value c =
    number_digit c.args.most c.in-Some.digit.now c.args.bytes.now c.in-Some.ensures.value
    c.if-not-is_ascii_digit.ensures.cases
    ∙ ap Ok (ap (λ digit. digits_after (c.args.most - 1) digit (drop 1 c.args.bytes.now)) (sym c.from.ensures)
    ∙ (ap (λ rest. digits_after (c.args.most - 1) c.from.result rest) (sym (rest_is c.args.bytes.now))
    ∙ c.digits_after.ensures.value))
