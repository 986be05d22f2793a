-- A written date and a written time are read back.
use Rattle.std.proofs.Common.{◌≡◌, ◌≢◌, ℕ, ◌+◌, ◌/◌, ◌%◌, ◌<◌, ◌≤◌, List, ◌∷◌, ◌++◌, Some, inl, inr, Ok, refl, ap, ◌∙◌}
use Rattle.std.proofs.Common.{arith, eq-eqb}
use Rattle.std.proofs.lemmas.Bool.{lt-ltb, le-ltb, ne_eqb, cases_lt}
use Rattle.std.proofs.lemmas.Bool.Decides.{nat_tests}
use Rattle.std.specs.Prelude.{pos}
use Rattle.jiff_core.specs.Calendar.{days_in_month}
use Rattle.jiff_core.proofs.CalendarLemmas.{days_in_month_bounds}
use Rattle.sccs_sid.specs.Reading.{number, number_at, digits_after, until, behind}
use Rattle.sccs_sid.specs.Moment.{IsMoment, Civil, Exists, full_year, within, unit, two, date_of, time_of, moment_of}
use Rattle.sccs_sid.specs.Moment.{civil_of, civil_date, civil_time, date_text, time_text}
use Rattle.sccs_sid.specs.declared.moments.Moment.{Moment}
use Rattle.sccs_sid.proofs.Hundred.{civil_shows}

-- two digits are read as their number
pub number_two : (n : ℕ) → n < 100 → number 2 (two n) ≡ Some n
unfolding number number_at digits_after
number_two n low =
    let tens : ℕ = 48 + n / 10 in
    let ones : ℕ = 48 + n % 10 in
    rw (
      le-ltb tens 48 (omega arith),
      le-ltb 57 tens (omega arith),
      le-ltb ones 48 (omega arith),
      le-ltb 57 ones
          (omega arith),
    ) (ap Some (omega arith))

within_ok : (place low high n : ℕ) → low ≤ n → n ≤ high → within place low high (Some n) ≡ Ok n
within_ok place low high n above below = grind (arith, nat_tests)

pub unit_two : (place low high n : ℕ) → n < 100 → low ≤ n → n ≤ high → unit place low high (Some (two n)) ≡ Ok n
unit_two place low high n few above below = ap (within place low high) (number_two n few)
    ∙ within_ok place low high n above below

until_two : (separator n : ℕ) (rest : List ℕ) → 48 + n / 10 ≢ separator → 48 + n % 10 ≢ separator
    → until separator (two n ++ (separator ∷ rest)) ≡ two n
unfolding until
until_two separator n rest tens ones = rw (ne_eqb _ _ tens, ne_eqb _ _ ones, eq-eqb separator separator refl) refl

behind_two : (separator n : ℕ) (rest : List ℕ) → 48 + n / 10 ≢ separator → 48 + n % 10 ≢ separator
    → behind separator (two n ++ (separator ∷ rest)) ≡ Some rest
unfolding behind
behind_two separator n rest tens ones = rw (ne_eqb _ _ tens, ne_eqb _ _ ones, eq-eqb separator separator refl) refl

year_round_trip : (y : ℕ) → 1969 ≤ y → y ≤ 2068 → full_year (y % 100) ≡ y
year_round_trip y low high = elim (cases_lt (y % 100) 69) [
  | inl l ↦ rw (lt-ltb _ _ l) (omega arith)
  | inr g ↦ rw
      (le-ltb _ _ g) (omega arith)
]

pub date_round_trip : (c : Civil) → Exists c → date_of (civil_date c) ≡ Ok (c.year, c.month, c.day)
unfolding date_of
date_round_trip c e =
    let day : List ℕ = two c.day in
    let month : List ℕ = two c.month ++ (47 ∷ day) in
    let short : c.year % 100 < 100 = omega arith in
    let few : days_in_month (pos c.year) c.month ≤ 31 = (days_in_month_bounds (pos c.year) c.month).0 in
    rw (
      until_two 47 (c.year % 100) month (omega arith) (omega arith),
      unit_two 1 0 99 (c.year % 100) short (omega arith) (omega arith),
      behind_two 47 (c.year % 100) month (omega arith) (omega arith),
      until_two 47 c.month day (omega arith) (omega arith),
      unit_two 2 1 12 c.month (omega arith) e.month.0 e.month.1,
      behind_two 47 c.month day (omega arith) (omega arith),
      year_round_trip c.year e.year.0 e.year.1,
      unit_two 3 1 (days_in_month (pos c.year) c.month) c.day (omega arith) e.day.0 e.day.1,
    )
    refl

pub time_round_trip : (c : Civil) → Exists c → time_of (civil_time c) ≡ Ok (c.hour, c.minute, c.second)
unfolding time_of
time_round_trip c e =
    let second : List ℕ = two c.second in
    let minute : List ℕ = two c.minute ++ (58 ∷ second) in
    rw (
      until_two 58 c.hour minute (omega arith) (omega arith),
      unit_two 4 0 23 c.hour (omega arith) (omega arith) (omega arith),
      behind_two 58 c.hour minute (omega arith) (omega arith),
      until_two 58 c.minute second (omega arith) (omega arith),
      unit_two 5 0 59 c.minute (omega arith) (omega arith) (omega arith),
      behind_two 58 c.minute second (omega arith) (omega arith),
      unit_two 6 0 59 c.second (omega arith) (omega arith) (omega arith),
    )
    refl

pub moment_text_again : (moment : Moment) → IsMoment moment → moment_of (date_text moment) (time_text moment)
    ≡ Ok moment
unfolding moment_of
moment_text_again moment is =
    let shows = civil_shows moment is in
    rw (date_round_trip (civil_of moment) shows.0, time_round_trip (civil_of moment) shows.0)
    (ap (λ seconds. Ok (record { seconds = seconds })) shows.1)
