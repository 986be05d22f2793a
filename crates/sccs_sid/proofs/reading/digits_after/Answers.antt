use Rattle.std.proofs.Common.{◌-◌, ◌*◌, ◌+◌, drop, rules, ap, sym, ◌∙◌, arith}
use Rattle.sccs_sid.specs.Reading.{digits_after}
use Rattle.sccs_sid.proofs.Digits.{rest_is, room, room_none, room_one, digits_more, digits_done, digits_end}
use Rattle.sccs_sid.proofs.Digits.{digits_full}
use Rattle.sccs_sid.proofs.reading.digits_after.Goals as goal

pub returns-in_default-clause-value : goal.returns-in_default-clause-value
returns-in_default-clause-value c = sym c.digits.invariant.same ∙ digits_end c.digits.left c.digits.number
    c.digits.rest.now c.in_default.ensures.value

pub returns-in_default-clause-small : goal.returns-in_default-clause-small
returns-in_default-clause-small c = omega (arith, room_none c.digits.number c.digits.left, c.digits.invariant.room)

pub returns-then-not-is_ascii_digit-clause-value : goal.returns-then-not-is_ascii_digit-clause-value
returns-then-not-is_ascii_digit-clause-value c =
    sym c.digits.invariant.same ∙ digits_done c.digits.left c.digits.number c.in-Some.digit.now c.digits.rest.now
    c.in-Some.ensures.value c.if-not-is_ascii_digit.ensures.cases

pub returns-then-not-is_ascii_digit-clause-small : goal.returns-then-not-is_ascii_digit-clause-small
returns-then-not-is_ascii_digit-clause-small c = omega (
  arith,
  room_none c.digits.number c.digits.left,
  c.digits.invariant.room,
)

pub overflow_mul-number : goal.overflow_mul-number
overflow_mul-number c = omega (
  arith,
  room_one c.digits.number c.digits.left c.digits-test.true,
  c.digits.invariant.room,
  c.requires,
)

pub overflow_add-number : goal.overflow_add-number
overflow_add-number c =
    omega (
      arith,
      room_one c.digits.number c.digits.left c.digits-test.true,
      c.digits.invariant.room,
      c.requires,
      c.from.ensures,
      c.if-not-is_ascii_digit.ensures.cases,
    )

pub digits-preserved : goal.digits-preserved
digits-preserved c =
    let some = c.digits-test.true in
    let more = room c.digits.number c.digits.left c.from.result some
    (omega (arith, c.from.ensures, c.if-not-is_ascii_digit.ensures.cases)) in
    record {
      same = ap (λ rest. digits_after (c.digits.left - 1) (c.digits.number * 10 + c.from.result) rest)
          (rest_is c.digits.rest.now)
          ∙ (ap (λ digit. digits_after (c.digits.left - 1) (c.digits.number * 10 + digit) (drop 1 c.digits.rest.now))
          c.from.ensures
          ∙ (sym (digits_more c.digits.left c.digits.number c.in-Some.digit.now c.digits.rest.now some
          c.in-Some.ensures.value c.if-not-is_ascii_digit.ensures.cases) ∙ c.digits.invariant.same));
      room = omega (arith, more, c.digits.invariant.room);
      shorter = search rules;
    }

pub returns-clause-value : goal.returns-clause-value
returns-clause-value c = sym c.digits.invariant.same ∙ digits_full c.digits.left c.digits.number c.digits.rest.now
    c.digits-test.false
