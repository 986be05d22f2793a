-- What jiff shows at a moment is the moment's date and time.
use Rattle.std.proofs.Common.{◌≡◌, ◌∙◌, refl, arith, lit<, ℤ, pos, ◌*ℤ◌, int_div, to_z, w8, w16}
use Rattle.std.proofs.lemmas.Int.{ints}
use Rattle.jiff_core.specs.Date.{IsYmd}
use Rattle.jiff_core.specs.Time.{IsHms}
use Rattle.jiff_core.proofs.CalendarLemmas.{days_in_month_bounds}
use Rattle.jiff_core.specs.declared.civil.datetime.DateTime.{DateTime}
use Rattle.jiff_core.specs.Calendar.{IsYear}
use Rattle.jiff_core.specs.DateTime.{civil_nanos, civil_seconds}
use Rattle.jiff_core.proofs.SignedLemmas.{signed_arith}
use Rattle.jiff_core.proofs.DateLemmas.{epoch_day_injective}
use Rattle.jiff_core.proofs.DateTimeLemmas.{civil_nanos_injective, civil_nanos-civil_seconds, time_nanos_injective}
use Rattle.sccs_sid.specs.Moment.{IsMoment, Civil, Exists, second_at, civil_of}
use Rattle.sccs_sid.specs.declared.moments.Moment.{Moment}
use Rattle.sccs_sid.proofs.Hundred.{civil_shows}

-- The same date and time, to the second.
pub record IsShown (dt : DateTime) (c : Civil) : Type 0 where
  pub year : dt.date.year ≡ pos c.year
  pub month : dt.date.month ≡ c.month
  pub day : dt.date.day ≡ c.day
  pub hour : dt.time.hour ≡ c.hour
  pub minute : dt.time.minute ≡ c.minute
  pub second : dt.time.second ≡ c.second

pub seconds_are : (dt : DateTime) (c : Civil) → IsShown dt c → civil_seconds dt ≡ second_at c
unfolding civil_seconds
seconds_are dt c is = rw (is.year, is.month, is.day, is.hour, is.minute, is.second) refl

-- the nanoseconds of a date and time without a fraction
pub nanos_are : (dt : DateTime) (c : Civil) → IsShown dt c → pos dt.time.subsec_nanosecond ≡ pos 0
    → civil_nanos dt ≡ second_at c *ℤ pos 1_000_000_000
nanos_are dt c is none = omega (arith, signed_arith, civil_nanos-civil_seconds dt, seconds_are dt c is, none)

-- the seconds in so many nanoseconds
pub whole_seconds : (second nanos : ℤ) → nanos ≡ second *ℤ pos 1_000_000_000 → int_div nanos (pos 1_000_000_000)
    ≡ second
whole_seconds second nanos is = omega (arith, signed_arith)

-- jiff's date and time of parts that are cast to it
pub cast_shown : (dt : DateTime) (c : Civil) → Exists c → IsYmd (to_z w16 c.year) (to_z w8 c.month)
    (to_z w8 c.day) dt.date → IsHms (to_z w8 c.hour) (to_z w8 c.minute) (to_z w8 c.second) (pos 0) dt.time
    → IsShown dt c
cast_shown dt c e date time =
    let bounds = days_in_month_bounds (pos c.year) c.month in
    record {
      year = omega (arith, ints, e.year);
      month = omega (arith, ints, e.month);
      day = omega (arith, ints, e.day, bounds);
      hour = omega (arith, ints, e.hour);
      minute = omega (arith, ints, e.minute);
      second = omega (arith, ints, e.second);
    }

-- jiff's value of a date and time that exist
made : (c : Civil) → Exists c → DateTime
made c e =
    let year : IsYear (pos c.year) = omega (arith, signed_arith) in
    record {
      date = record {
        year = pos c.year;
        month = c.month;
        day = c.day;
        year_in = year;
        month_in = e.month;
        day_in =
            e.day;
      };
      time = record {
        hour = c.hour;
        minute = c.minute;
        second = c.second;
        subsec_nanosecond = 0;
        hour_in = e.hour;
        minute_in = e.minute;
        second_in = e.second;
        subsec_in = lit< tt;
      };
    }

pub shown_is : (dt : DateTime) (moment : Moment) → IsMoment moment
    → civil_nanos dt ≡ moment.seconds *ℤ pos 1_000_000_000 → IsShown dt (civil_of moment)
unfolding made
shown_is dt moment is nanos =
    let shows = civil_shows moment is in
    let other : DateTime = made (civil_of moment) shows.0 in
    let seconds : civil_seconds other ≡ moment.seconds =
    seconds_are other (civil_of moment)
    (record { year = refl; month = refl; day = refl; hour = refl; minute = refl; second = refl }) ∙ shows.1 in
    let same : civil_nanos dt ≡ civil_nanos other = omega (
      arith,
      signed_arith,
      civil_nanos-civil_seconds other,
      seconds,
      nanos,
    ) in
    let parts = civil_nanos_injective dt other same in
    let date = epoch_day_injective dt.date other.date parts.0 in
    let time = time_nanos_injective dt.time other.time parts.1 in
    record { year = date.0; month = date.1; day = date.2; hour = time.0; minute = time.1; second = time.2 }
