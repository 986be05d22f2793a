-- The hundred years from 1969 on: when each begins, and where a day falls in its year.
use Rattle.std.proofs.Common.{◌≡◌, ℕ, zero, suc, ◌+◌, ◌-◌, ◌*◌, ◌/◌, ◌%◌, ◌<◌, ◌≤◌, refl, ap, ◌∙◌, arith, ℤ, pos}
use Rattle.std.proofs.Common.{negsuc, ◌+ℤ◌, ◌≤ℤ◌, unsigned_abs, inl, inr, lit≤, subst}
use Rattle.std.proofs.lemmas.Bool.{lt-ltb, le-ltb, cases_lt}
use Rattle.jiff_core.specs.Calendar.{days_in_year, days_in_month, days_of_months, day_of_year, day_count, IsYear}
use Rattle.jiff_core.proofs.SignedLemmas.{signed_arith}
use Rattle.jiff_core.proofs.CalendarLemmas.{days_from_civil-day_count, days_of_months_more, days_of_months-zero}
use Rattle.jiff_core.proofs.CalendarLemmas.{days_of_months_all, day_count-day_of_year, day_count-next_year}
use Rattle.jiff_core.proofs.CalendarLemmas.{day_of_year_bound}
use Rattle.jiff_core.proofs.MarchLemmas.{day_count-early}
use Rattle.sccs_sid.specs.Moment.{IsMomentSecond, IsMoment, Civil, Exists, second_at, month_and_day, civil_in, civil_on}
use Rattle.sccs_sid.specs.Moment.{civil_of}
use Rattle.sccs_sid.specs.declared.moments.Moment.{Moment}

-- the day count at the start of a year
pub year_start : (k : ℕ) → k ≤ 100 → day_count (pos (1969 + k)) 1 1 ≡ 4_371_588 + 365 * k + k / 4
year_start k low =
    let shifted : pos (1969 + k) +ℤ pos 10000 ≡ pos (suc (11968 + k)) = omega (arith, signed_arith) in
    let start = day_count-early (pos (1969 + k)) (11968 + k) 1 1 shifted (omega arith) (omega arith) (omega arith) in
    omega (arith, start)

-- how long a year is
pub year_long : (k : ℕ) → k ≤ 99 → 365 * k + k / 4 + days_in_year (pos (1969 + k)) ≡ 365 * (k + 1) + (k + 1) / 4
year_long k low =
    let next = day_count-next_year (pos (1969 + k)) (pos (1969 + (k + 1))) (omega (arith, signed_arith))
    (omega (arith, signed_arith)) in
    omega (arith, next, year_start k (omega arith), year_start (k + 1) (omega arith))

-- Where a place of a year falls.
pub record Falls (year : ℤ) (place : ℕ) (found : ℕ × ℕ) : Type 0 where
  pub month : (1 ≤ found.0) × (found.0 ≤ 12)
  pub day : (1 ≤ found.1) × (found.1 ≤ days_in_month year found.0)
  pub sum : day_of_year year found.0 found.1 ≡ place + 1

-- the last month has all the places that are left
falls_here : (year : ℤ) (month place whole : ℕ) → 1 ≤ month → month ≤ 12 → days_of_months year (month - 1) + place
    ≡ whole → place < days_in_month year month → Falls year whole (month, place + 1)
falls_here year month place whole low high is fits =
    record { month = (low, high); day = (omega arith, omega arith); sum = omega arith }

add_one_sub : (n : ℕ) → n + 1 - 1 ≡ n
add_one_sub n = omega arith

-- the same, from a month on
falls_from : (year : ℤ) (more month place whole : ℕ) → 1 ≤ month → month + more ≡ 12 → days_of_months year (month - 1)
    + place ≡ whole → whole < days_of_months year 12 → Falls year whole (month_and_day year more month place)
unfolding month_and_day
falls_from year zero month place whole low last is fits =
    let here : month ≡ 12 = omega arith in
    let long = days_of_months_more year month low in
    falls_here year month place whole low (omega arith) is (omega (arith, ap (days_of_months year) here))
falls_from year (suc more) month place whole low last is fits =
    let long = days_of_months_more year month low in
    elim (cases_lt place (days_in_month year month)) [
      | inl here ↦ rw (lt-ltb _ _ here) (falls_here year month place whole low (omega arith) is here)
      | inr behind ↦ rw (le-ltb _ _ behind)
          (falls_from year more (month + 1) (place - days_in_month year month) whole (omega arith) (omega arith)
          (omega (arith, ap (days_of_months year) (add_one_sub month))) fits)
    ]

pub falls : (year : ℤ) (place : ℕ) → place < days_in_year year → Falls year place (month_and_day year 11 1 place)
falls year place fits =
    falls_from year 11 1 place place (lit≤ tt) refl (omega (arith, days_of_months-zero year))
    (omega (arith, days_of_months_all year))

-- The date and time of a day and a second of it exist, and the day and the second are theirs.
pub record Shows (days second : ℕ) (c : Civil) : Type 0 where
  pub exists : Exists c
  pub days_is : day_count (pos c.year) c.month c.day ≡ 4_371_588 + days
  pub clock_is : c.hour * 3600 + c.minute * 60 + c.second ≡ second

shows_in : (k place second : ℕ) (day : ℕ × ℕ) → k ≤ 99 → second < 86_400 → Falls (pos (1969 + k)) place day
    → Shows (365 * k + k / 4 + place) second (civil_in (1969 + k) day second)
shows_in k place second day low clock falls =
    record {
      exists = record {
        year = (omega arith, omega arith);
        month = falls.month;
        day = falls.day;
        hour = omega arith;
        minute = omega arith;
        second = omega arith;
      };
      days_is = omega (
        arith,
        day_count-day_of_year (pos (1969 + k)) day.0 day.1 falls.day.0,
        year_start k
            (omega arith),
        falls.sum,
      );
      clock_is = omega arith;
    }

pub shows_on : (days second : ℕ) → days < 36525 → second < 86_400 → Shows days second (civil_on days second)
shows_on days second low clock =
    let k : ℕ = (4 * days + 3) / 1461 in
    let few : k ≤ 99 = omega arith in
    let long = year_long k few in
    let place : ℕ = days - (365 * k + k / 4) in
    let is : 365 * k + k / 4 + place ≡ days = omega arith in
    subst (λ n. Shows n second (civil_on days second)) is (shows_in k place second _ few clock
    (falls (pos (1969 + k)) place (omega arith)))

not_negative : (z : ℤ) → pos 0 ≤ℤ z → z ≡ pos (unsigned_abs z)
not_negative (pos n) low = refl
not_negative (negsuc n) low = absurd (omega (arith, signed_arith, low))

second_is : (seconds : ℤ) (c : Civil) (second : ℕ) → seconds +ℤ pos 31_536_000 ≡ pos second → Shows (second / 86_400)
    (second % 86_400) c → second_at c ≡ seconds
second_is seconds c second from shown =
    omega (arith, signed_arith, days_from_civil-day_count (pos c.year) c.month c.day, shown.days_is, shown.clock_is)

pub civil_shows : (moment : Moment) → IsMoment moment → Exists (civil_of moment)
    × (second_at (civil_of moment) ≡ moment.seconds)
unfolding civil_of
civil_shows moment is =
    let second : ℕ = unsigned_abs (moment.seconds +ℤ pos 31_536_000) in
    let from : moment.seconds +ℤ pos 31_536_000 ≡ pos second = not_negative (moment.seconds +ℤ pos 31_536_000)
    (omega (arith, signed_arith, is.0)) in
    let shown = shows_on (second / 86_400) (second % 86_400) (omega (arith, signed_arith)) (omega arith) in
    (shown.exists, second_is moment.seconds (civil_on (second / 86_400) (second % 86_400)) second from shown)

-- the day count of a date that exists, by its year
count_in : (k : ℕ) (c : Civil) → c.year ≡ 1969 + k → Exists c → (4_371_588 ≤ day_count (pos c.year) c.month c.day)
    × (day_count (pos c.year) c.month c.day ≤ 4_408_112)
count_in k c is e =
    let year : IsYear (pos c.year) = omega (arith, signed_arith) in
    let start : day_count (pos c.year) 1 1 ≡ 4_371_588 + 365 * k + k / 4 = ap (λ y. day_count (pos y) 1 1) is
    ∙ year_start k (omega arith) in
    let long : 365 * k + k / 4 + days_in_year (pos c.year) ≡ 365 * (k + 1) + (k + 1) / 4 =
    ap (λ y. 365 * k + k / 4 + days_in_year (pos y)) is ∙ year_long k (omega arith) in
    let within = day_of_year_bound (pos c.year) c.month c.day (year, e.month, e.day) in
    let count = day_count-day_of_year (pos c.year) c.month c.day e.day.0 in
    (omega arith, omega arith)

-- the second of a date and time that exist is a moment's
pub second_in : (c : Civil) → Exists c → IsMomentSecond (second_at c)
second_in c e =
    let count = count_in (c.year - 1969) c (omega arith) e in
    let day = days_from_civil-day_count (pos c.year) c.month c.day in
    (omega (arith, signed_arith), omega (arith, signed_arith))
