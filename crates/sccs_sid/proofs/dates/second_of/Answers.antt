use Rattle.std.proofs.Common.{◌≡◌, ◌-ℤ◌, ◌*ℤ◌, ◌∙◌, pos, sym, subst, arith, FitsSigned, w64}
use Rattle.std.proofs.lemmas.Int.{to_z-of_z}
use Rattle.jiff_core.proofs.SignedLemmas.{signed_arith}
use Rattle.jiff_core.specs.Timestamp.{IsTimestampNanos}
use Rattle.jiff_core.specs.DateTime.{civil_nanos}
use Rattle.sccs_sid.specs.Moment.{Civil, IsMomentSecond, second_at}
use Rattle.sccs_sid.proofs.Hundred.{second_in}
use Rattle.sccs_sid.proofs.Shown.{nanos_are, whole_seconds, cast_shown}
use Rattle.sccs_sid.proofs.dates.second_of.Goals as goal

pub unreachable-requires : goal.unreachable-requires
unreachable-requires c =
    let civil : Civil = record {
      year = c.args.year;
      month = c.args.month;
      day = c.args.day;
      hour = c.args.hour;
      minute = c.args.minute;
      second = c.args.second;
    } in
    let shown = c.datetime-shown.result in
    let d = c.datetime-shown.ensures in
    let nanos : civil_nanos shown ≡ second_at civil *ℤ pos 1_000_000_000 =
    nanos_are shown civil (cast_shown shown civil c.requires d.date d.time) d.time.3 in
    let valid : IsMomentSecond (second_at civil) = second_in civil c.requires in
    let fits : IsTimestampNanos (civil_nanos shown -ℤ pos 0) =
    (omega (arith, signed_arith, nanos, valid), omega (arith, signed_arith, nanos, valid)) in
    cc (c.in-Err.ensures.succeeds.1 fits)

pub returns-clause-value : goal.returns-clause-value
returns-clause-value c =
    let civil : Civil = record {
      year = c.args.year;
      month = c.args.month;
      day = c.args.day;
      hour = c.args.hour;
      minute = c.args.minute;
      second = c.args.second;
    } in
    let shown = c.datetime-shown.result in
    let d = c.datetime-shown.ensures in
    let nanos : civil_nanos shown ≡ second_at civil *ℤ pos 1_000_000_000 =
    nanos_are shown civil (cast_shown shown civil c.requires d.date d.time) d.time.3 in
    let given : c.in-Ok.timestamp.nanosecond ≡ second_at civil *ℤ pos 1_000_000_000 =
    omega (arith, signed_arith, c.in-Ok.ensures.value, nanos) in
    let second : c.as_second.result ≡ second_at civil = c.as_second.ensures
    ∙ whole_seconds (second_at civil) c.in-Ok.timestamp.nanosecond given in
    let valid : IsMomentSecond (second_at civil) = second_in civil c.requires in
    let fits : FitsSigned w64 c.as_second.result = omega (arith, signed_arith, second, valid) in
    to_z-of_z w64 c.as_second.result fits ∙ second

pub returns-clause-valid : goal.returns-clause-valid
returns-clause-valid c = subst IsMomentSecond (sym (returns-clause-value c)) (second_in _ c.requires)
