-- What is read of lines without LF has a spelling.
use Rattle.std.proofs.Common.{◌≡◌, ℕ, zero, suc, ◌+◌, ◌*◌, ◌-◌, ◌<◌, ◌≤◌, ◌==◌, nat_lt, nat_le, ◌⊎◌, inl, inr, Bool}
use Rattle.std.proofs.Common.{true, false, ◌&&◌, List, [], ◌∷◌, ◌++◌, Option, Some, None, Result, Ok, Err, refl, arith}
use Rattle.std.specs.Prelude.{option_map, option_and_then, pos, if◌then◌else◌}
use Rattle.std.specs.List.{AllByRecursion}
use Rattle.std.specs.Result.{IfOk}
use Rattle.std.proofs.lemmas.Bool.{and_parts, cases_Bool, leb-true, ltb-true, ltb-false}
use Rattle.jiff_core.specs.Calendar.{days_in_month}
use Rattle.sccs_sid.specs.Reading.{◌>>=◌, until, behind, digits_after, number_at, byte_at, number}
use Rattle.sccs_sid.specs.Sid.{IsSid, ended_sid, numbers_after, numbers, sid_of_numbers, sid_by, sid_of}
use Rattle.sccs_sid.specs.Moment.{IsMoment, full_year, within, unit, date_of, time_of, moment_of}
use Rattle.sccs_sid.proofs.Hundred.{second_in}
use Rattle.sccs_grammar.proofs.ParserRules.{all_push}
use Rattle.sccs_tokens.proofs.TokenRules.{digits_small}

-- ---- steps of reading

pub then_ok : {A B E : Type 0} (P : A → Type 0) (Q : B → Type 0) (r : Result A E) (f : A → Result B E) → IfOk r P
    → ((a : A) → P a → IfOk (f a) Q) → IfOk (r >>= f) Q
then_ok P Q (Ok a) f h more = more a h
then_ok P Q (Err e) f h more = tt

-- ---- SIDs

AreLow : List ℕ → Type 0
AreLow ns = AllByRecursion (λ n. n < 10000) ns

first_low : (b : ℕ) (bytes : List ℕ) → (nat_lt b 48 ≡ true) ⊎ (nat_lt b 48 ≡ false) → (nat_lt 57 b ≡ true)
    ⊎ (nat_lt 57 b ≡ false) → IfOk (number_at 4 (b ∷ bytes)) (λ x. x.0 < 10000)
unfolding number_at
first_low b bytes (inl low) over = rw low tt
first_low b bytes (inr least) (inl over) = rw (least, over) tt
first_low b bytes (inr least) (inr greatest) =
    let top : b ≤ 57 = ltb-false 57 b greatest in
    let small : (digits_after 3 (b - 48) bytes).0 + 1 ≤ ((b - 48) + 1) * 1000 = digits_small 3 (b - 48) bytes in
    rw (least, greatest) (omega arith)

pub number_low : (bytes : List ℕ) → IfOk (number_at 4 bytes) (λ x. x.0 < 10000)
unfolding number_at
number_low [] = tt
number_low (b ∷ bytes) = first_low b bytes (cases_Bool (nat_lt b 48)) (cases_Bool (nat_lt 57 b))

dot_low : (test : Bool) (bytes : List ℕ) (left : ℕ) (more : List ℕ → Result (List ℕ) ℕ)
    → ((rest : List ℕ) → IfOk (more rest) AreLow) → IfOk ((if test then Ok bytes else Err left) >>= more) AreLow
dot_low true bytes left more h = h bytes
dot_low false bytes left more h = tt

ended_low : (more : List ℕ → List ℕ → Result (List ℕ) ℕ) (found bytes : List ℕ) → AreLow found
    → ((rest : List ℕ) → IfOk (more found rest) AreLow) → IfOk (ended_sid more found bytes) AreLow
unfolding byte_at
ended_low more found [] are h = are
ended_low more found (b ∷ bytes) are h = dot_low (b == 46) bytes _ (more found) h

one_low : (ns : List ℕ) (n : ℕ) → AreLow ns → n < 10000 → AreLow (ns ++ n ∷ [])
unfolding AreLow
one_low ns n are low = all_push (λ n. n < 10000) ns n are low

numbers_low : (most : ℕ) (found bytes : List ℕ) → AreLow found → IfOk (numbers_after most found bytes) AreLow
unfolding numbers_after
numbers_low zero found bytes are = tt
numbers_low (suc most) found bytes are =
    then_ok (λ x. x.0 < 10000) AreLow (number_at 4 bytes) _ (number_low bytes) λ n low.
    let grown = one_low found n.0 are low in
    ended_low (numbers_after most) (found ++ n.0 ∷ []) n.1 grown (λ rest. numbers_low most (found ++ n.0 ∷ []) rest
    grown)

sid_low : (ns : List ℕ) → AreLow ns → IfOk (sid_of_numbers ns) IsSid
unfolding AreLow
sid_low (suc r ∷ suc l ∷ []) are = record {
  release = (omega arith, are.0);
  level = (omega arith, are.1.0);
  branch =
      refl;
}
sid_low (suc r ∷ suc l ∷ suc b ∷ suc s ∷ []) are = record {
  release = (omega arith, are.0);
  level = (omega arith, are.1.0);
  branch = (are.1.1.0, (omega arith, are.1.1.1.0));
}
sid_low [] are = tt
sid_low (zero ∷ []) are = tt
sid_low (suc r ∷ []) are = tt
sid_low (zero ∷ l ∷ []) are = tt
sid_low (suc r ∷ zero ∷ []) are = tt
sid_low (zero ∷ l ∷ b ∷ []) are = tt
sid_low (suc r ∷ zero ∷ b ∷ []) are = tt
sid_low (suc r ∷ suc l ∷ zero ∷ []) are = tt
sid_low (suc r ∷ suc l ∷ suc b ∷ []) are = tt
sid_low (zero ∷ l ∷ b ∷ s ∷ []) are = tt
sid_low (suc r ∷ zero ∷ b ∷ s ∷ []) are = tt
sid_low (suc r ∷ suc l ∷ zero ∷ s ∷ []) are = tt
sid_low (suc r ∷ suc l ∷ suc b ∷ zero ∷ []) are = tt
sid_low (zero ∷ l ∷ b ∷ s ∷ x ∷ ns) are = tt
sid_low (suc r ∷ zero ∷ b ∷ s ∷ x ∷ ns) are = tt
sid_low (suc r ∷ suc l ∷ zero ∷ s ∷ x ∷ ns) are = tt
sid_low (suc r ∷ suc l ∷ suc b ∷ zero ∷ x ∷ ns) are = tt
sid_low (suc r ∷ suc l ∷ suc b ∷ suc s ∷ x ∷ ns) are = tt

sid_read : (r : Result (List ℕ) ℕ) → IfOk r AreLow → IfOk (sid_by r) IsSid
sid_read (Ok ns) are = sid_low ns are
sid_read (Err left) are = tt

pub sid_is : (bytes : List ℕ) → IfOk (sid_of bytes) IsSid
unfolding sid_of AreLow
sid_is bytes = sid_read (numbers bytes) (numbers_low 4 [] bytes tt)

-- ---- moments

Between : ℕ → ℕ → ℕ → Type 0
Between low high n = (low ≤ n) × (n ≤ high)

fits_within : (test : Bool) (low high n : ℕ) (place : ℕ) → (nat_le low n && nat_le n high) ≡ test
    → IfOk (within place low high (Some n)) (Between low high)
unfolding Between
fits_within true low high n place is =
    let parts = and_parts (nat_le low n) (nat_le n high) is in rw is (leb-true low n parts.0, leb-true n high parts.1)
fits_within false low high n place is = rw is tt

within_is : (place low high : ℕ) (o : Option ℕ) → IfOk (within place low high o) (Between low high)
within_is place low high None = tt
within_is place low high (Some n) = fits_within (nat_le low n && nat_le n high) low high n place refl

unit_is : (place low high : ℕ) (piece : Option (List ℕ)) → IfOk (unit place low high piece) (Between low high)
unit_is place low high piece = within_is place low high (option_and_then (number 2) piece)

year_cases : (y : ℕ) → y ≤ 99 → (nat_lt y 69 ≡ true) ⊎ (nat_lt y 69 ≡ false) → (1969 ≤ full_year y)
    × (full_year y ≤ 2068)
year_cases y top (inl low) = let is = ltb-true y 69 low in rw low (omega arith, omega arith)
year_cases y top (inr high) = let is = ltb-false y 69 high in rw high (omega arith, omega arith)

IsDate : ℕ × ℕ × ℕ → Type 0
IsDate d =
    ((1969 ≤ d.0) × (d.0 ≤ 2068)) × ((1 ≤ d.1) × (d.1 ≤ 12)) × ((1 ≤ d.2) × (d.2 ≤ days_in_month (pos d.0) d.1))

date_is : (date : List ℕ) → IfOk (date_of date) IsDate
unfolding date_of IsDate Between
date_is date =
    then_ok (Between 0 99) IsDate (unit 1 0 99 (Some (until 47 date))) _ (unit_is 1 0 99 (Some (until 47 date))) λ y
    year.
    then_ok (Between 1 12) IsDate (unit 2 1 12 (option_map (until 47) (behind 47 date))) _
    (unit_is 2 1 12 (option_map (until 47) (behind 47 date))) λ m month.
    then_ok (Between 1 (days_in_month (pos (full_year y)) m)) IsDate (unit 3 1 (days_in_month (pos (full_year y)) m)
    (option_and_then (behind 47) (behind 47 date))) _ (unit_is 3 1 (days_in_month (pos (full_year y)) m)
    (option_and_then (behind 47) (behind 47 date))) λ d day.
    (year_cases y year.1 (cases_Bool (nat_lt y 69)), month, day)

IsTime : ℕ × ℕ × ℕ → Type 0
IsTime t = (t.0 < 24) × (t.1 < 60) × (t.2 < 60)

time_is : (time : List ℕ) → IfOk (time_of time) IsTime
unfolding time_of IsTime Between
time_is time =
    then_ok (Between 0 23) IsTime (unit 4 0 23 (Some (until 58 time))) _ (unit_is 4 0 23 (Some (until 58 time))) λ h
    hour.
    then_ok (Between 0 59) IsTime (unit 5 0 59 (option_map (until 58) (behind 58 time))) _
    (unit_is 5 0 59 (option_map (until 58) (behind 58 time))) λ m minute.
    then_ok (Between 0 59) IsTime (unit 6 0 59 (option_and_then (behind 58) (behind 58 time))) _
    (unit_is 6 0 59 (option_and_then (behind 58) (behind 58 time))) λ s second.
    (omega (arith, hour.1), omega (arith, minute.1), omega (arith, second.1))

pub moment_is : (date time : List ℕ) → IfOk (moment_of date time) IsMoment
unfolding moment_of IsDate IsTime
moment_is date time =
    then_ok IsDate IsMoment (date_of date) _ (date_is date) λ d day.
    then_ok IsTime IsMoment (time_of time) _ (time_is time) λ t clock.
    second_in (record { year = d.0; month = d.1; day = d.2; hour = t.0; minute = t.1; second = t.2 })
    (record { year = day.0; month = day.1; day = day.2; hour = clock.0; minute = clock.1; second = clock.2 })
