-- Moments: what they are, how a date and a time are read, and the one written spelling.
use Rattle.std.specs.Prelude.{ℕ, zero, suc, ◌+◌, ◌-◌, ◌*◌, ◌/◌, ◌%◌, ◌<◌, ◌≤◌, ◌&&◌, nat_lt, nat_le, List, [], ◌∷◌}
use Rattle.std.specs.Prelude.{◌++◌, Option, None, Some, option_map, option_and_then, Result, Ok, Err, if◌then◌else◌, ℤ}
use Rattle.std.specs.Prelude.{pos, neg_ℤ, ◌+ℤ◌, ◌*ℤ◌, unsigned_abs}
use Rattle.jiff_core.specs.Calendar.{IsBetween, days_in_month, days_from_civil}
use Rattle.sccs_sid.specs.Reading.{◌>>=◌, number, until, behind}
use Rattle.sccs_sid.specs.declared.moments.Moment.{Moment}
use Rattle.sccs_sid.specs.declared.moments.MomentFault.{MomentFault}

-- a second of 1969-01-01 to 2068-12-31, counted from the start of 1970
abbrev pub IsMomentSecond : ℤ → Type 0
IsMomentSecond seconds = IsBetween (neg_ℤ (pos 31_536_000)) (pos 3_124_223_999) seconds

abbrev pub IsMoment : Moment → Type 0
IsMoment moment = IsMomentSecond moment.seconds

-- A date of the calendar and a time of the clock.
pub record Civil : Type 0 where
  pub year : ℕ
  pub month : ℕ
  pub day : ℕ
  pub hour : ℕ
  pub minute : ℕ
  pub second : ℕ

-- It is one of the hundred years that two digits name, and it exists.
pub record Exists (c : Civil) : Type 0 where
  pub year : (1969 ≤ c.year) × (c.year ≤ 2068)
  pub month : (1 ≤ c.month) × (c.month ≤ 12)
  pub day : (1 ≤ c.day) × (c.day ≤ days_in_month (pos c.year) c.month)
  pub hour : c.hour < 24
  pub minute : c.minute < 60
  pub second : c.second < 60

-- its second, counted from the start of 1970
abbrev pub second_at : Civil → ℤ
second_at c = days_from_civil (pos c.year) c.month c.day *ℤ pos 86_400 +ℤ pos (c.hour * 3600 + c.minute * 60 + c.second)

-- the year that two digits name: 1969 to 1999 by 69 to 99, 2000 to 2068 by 00 to 68
abbrev pub full_year : ℕ → ℕ
full_year y = if nat_lt y 69 then 2000 + y else 1900 + y

-- a number from low to high, else a fault at the place
abbrev pub within : ℕ → ℕ → ℕ → Option ℕ → Result ℕ MomentFault
within place low high None = Err (record { place = place })
within place low high (Some n) = if nat_le low n && nat_le n high then Ok n else Err (record { place = place })

-- a piece of one or two digits, of a number from low to high
abbrev pub unit : ℕ → ℕ → ℕ → Option (List ℕ) → Result ℕ MomentFault
unit place low high piece = within place low high (option_and_then (number 2) piece)

-- year, month and day of yy/mm/dd
unfoldable pub date_of : List ℕ → Result (ℕ × ℕ × ℕ) MomentFault
date_of date = do
  year ← unit 1 0 99 (Some (until 47 date))
  month ← unit 2 1 12 (option_map (until 47) (behind 47 date))
  day ← unit 3 1 (days_in_month (pos (full_year year)) month) (option_and_then (behind 47) (behind 47 date))
  Ok (full_year year, month, day)

-- hour, minute and second of hh:mm:ss
unfoldable pub time_of : List ℕ → Result (ℕ × ℕ × ℕ) MomentFault
time_of time = do
  hour ← unit 4 0 23 (Some (until 58 time))
  minute ← unit 5 0 59 (option_map (until 58) (behind 58 time))
  second ← unit 6 0 59 (option_and_then (behind 58) (behind 58 time))
  Ok (hour, minute, second)

-- the moment of a date and a time
unfoldable pub moment_of : List ℕ → List ℕ → Result Moment MomentFault
moment_of date time = do
  d ← date_of date
  t ← time_of time
  Ok (record {
    seconds = second_at (record {
      year = d.0;
      month = d.1;
      day = d.2;
      hour = t.0;
      minute = t.1;
      second =
          t.2;
    });
  })

-- month and day at a place of a year, counted from 0 at the first of a month, with at most `more` months after it
unfoldable pub month_and_day : ℤ → ℕ → ℕ → ℕ → ℕ × ℕ
month_and_day year zero month place = (month, place + 1)
month_and_day year (suc more) month place =
    if nat_lt place (days_in_month year month) then (month, place + 1) else month_and_day year more (month + 1)
    (place - days_in_month year month)

-- the date and time in a year, by the days before its day and the seconds of that day
abbrev pub civil_in : ℕ → ℕ × ℕ → ℕ → Civil
civil_in year day second =
    record {
      year = year;
      month = day.0;
      day = day.1;
      hour = second / 3600;
      minute = second / 60 % 60;
      second =
          second % 60;
    }

-- the date and time of a day counted from 1969-01-01 and a second of it: a fourth year is the leap year
abbrev pub civil_on : ℕ → ℕ → Civil
civil_on days second =
    let k = (4 * days + 3) / 1461 in
    civil_in (1969 + k) (month_and_day (pos (1969 + k)) 11 1 (days - (365 * k + k / 4))) second

-- the date and time of a moment
unfoldable pub civil_of : Moment → Civil
civil_of moment =
    let second = unsigned_abs (moment.seconds +ℤ pos 31_536_000) in
    civil_on (second / 86_400) (second % 86_400)

-- two digits
abbrev pub two : ℕ → List ℕ
two n = (48 + n / 10) ∷ (48 + n % 10) ∷ []

-- the written date yy/mm/dd and the written time hh:mm:ss
abbrev pub civil_date : Civil → List ℕ
civil_date c = two (c.year % 100) ++ (47 ∷ two c.month ++ (47 ∷ two c.day))

abbrev pub civil_time : Civil → List ℕ
civil_time c = two c.hour ++ (58 ∷ two c.minute ++ (58 ∷ two c.second))

abbrev pub date_text : Moment → List ℕ
date_text moment = civil_date (civil_of moment)

abbrev pub time_text : Moment → List ℕ
time_text moment = civil_time (civil_of moment)

-- the written spelling
abbrev pub moment_text : Moment → List ℕ
moment_text moment = date_text moment ++ (32 ∷ time_text moment)
