-- Releases: their digits, and how large they are.
use Rattle.std.proofs.Common.{◌≡◌, ℕ, zero, suc, ◌+◌, ◌-◌, ◌*◌, ◌<◌, ◌≤◌, nat_lt, Bool, true, false, cond, List, []}
use Rattle.std.proofs.Common.{◌∷◌, append-nil, Result, Ok, Err, refl, sym, ap, subst, ◌∙◌, arith, lit<, lit≤}
use Rattle.std.specs.Prelude.{decimal, unwrap_or}
use Rattle.std.specs.List.{AllByRecursion}
use Rattle.std.proofs.lemmas.Bool.{false≢true, lt-ltb, ltb-false}
use Rattle.sccs_sid.specs.Reading.{digits_after, is_empty, number, number_at, only, whole}
use Rattle.sccs_sid.proofs.Decimals.{number_round_trip}
use Rattle.sccs_history.specs.FlagText.{is_release}
use Rattle.sccs_rules.specs.Unlocked.{release_in}

-- ---- digits

pub record IsDigit (b : ℕ) : Type 0 where
  pub low : 47 < b
  pub high : b < 58

abbrev pub AreDigits : List ℕ → Type 0
AreDigits bytes = AllByRecursion IsDigit bytes

abbrev pub Reads : ℕ × List ℕ → Type 0
Reads x = x.1 ≡ []

digit : (b : ℕ) → nat_lt b 48 ≡ false → nat_lt 57 b ≡ false → IsDigit b
digit b low high = let from : 48 ≤ b = ltb-false b 48 low in let to : b ≤ 57 = ltb-false 57 b high in
    record { low = omega (arith, from); high = omega (arith, to) }

step_digits : (most high b : ℕ) (bytes : List ℕ) (s t : Bool) → nat_lt b 48 ≡ s → nat_lt 57 b ≡ t
    → (Reads (digits_after most (high * 10 + (b - 48)) bytes) → AreDigits bytes)
    → Reads (cond s (high, b ∷ bytes) (cond t (high, b ∷ bytes) (digits_after most (high * 10 + (b - 48)) bytes)))
    → AreDigits (b ∷ bytes)
step_digits most high b bytes true t low up more is = absurd cc
step_digits most high b bytes false true low up more is = absurd cc
step_digits most high b bytes false false low up more is = (digit b low up, more is)

all_digits : (most high : ℕ) (bytes : List ℕ) → Reads (digits_after most high bytes) → AreDigits bytes
unfolding digits_after
all_digits zero high bytes is = subst AreDigits (sym is) tt
all_digits (suc most) high [] is = tt
all_digits (suc most) high (b ∷ bytes) is =
    step_digits most high b bytes (nat_lt b 48) (nat_lt 57 b) refl refl (all_digits most (high * 10 + (b - 48)) bytes)
    is

-- a number that all bytes spell
abbrev pub IsRead : Result (ℕ × List ℕ) ℕ → Type 0
IsRead (Ok x) = Reads x
IsRead (Err left) = ⊥

first_digits : (b : ℕ) (bytes : List ℕ) (s t : Bool) → nat_lt b 48 ≡ s → nat_lt 57 b ≡ t
    → IsRead (cond s (Err (suc 0)) (cond t (Err (suc 0)) (Ok (digits_after 3 (b - 48) bytes)))) → AreDigits (b ∷ bytes)
first_digits b bytes true t low up is = absurd is
first_digits b bytes false true low up is = absurd is
first_digits b bytes false false low up is = (digit b low up, all_digits 3 (b - 48) bytes is)

no_error : (b : ℕ) (bytes : List ℕ) (left : ℕ) (s t : Bool)
    → IsRead (cond s (Err left) (cond t (Err left) (Ok (digits_after 3 (b - 48) bytes))))
    → IsRead (cond s (Err (suc 0)) (cond t (Err (suc 0)) (Ok (digits_after 3 (b - 48) bytes))))
no_error b bytes left true t is = is
no_error b bytes left false true is = is
no_error b bytes left false false is = is

read_digits : (bytes : List ℕ) → IsRead (number_at 4 bytes) → AreDigits bytes
unfolding number_at
read_digits [] is = tt
read_digits (b ∷ bytes) is =
    first_digits b bytes (nat_lt b 48) (nat_lt 57 b) refl refl (no_error b bytes _ (nat_lt b 48) (nat_lt 57 b) is)

-- ---- releases

only_read : (x : ℕ × List ℕ) → nat_lt 0 (unwrap_or (only (is_empty x.1) x.0) 0) ≡ true → Reads x
only_read (n, []) is = refl
only_read (n, b ∷ bytes) is = absurd (false≢true is)

release_read : (r : Result (ℕ × List ℕ) ℕ) → nat_lt 0 (unwrap_or (whole r) 0) ≡ true → IsRead r
release_read (Ok x) is = only_read x is
release_read (Err left) is = absurd (false≢true is)

pub release_digits : (w : List ℕ) → is_release w ≡ true → AreDigits w
unfolding number
release_digits w is = read_digits w (release_read (number_at 4 w) is)

-- ---- how large

abbrev grown : ℕ → ℕ → ℕ
grown zero bound = bound
grown (suc most) bound = grown most (bound * 10)

grows : (most bound : ℕ) → bound ≤ grown most bound
grows zero bound = omega arith
grows (suc most) bound = let more = grows most (bound * 10) in omega (arith, more)

step_low : (most high b bound : ℕ) (bytes : List ℕ) (s t : Bool) → nat_lt b 48 ≡ s → nat_lt 57 b ≡ t → high < bound
    → (high * 10 + (b - 48) < bound * 10 → (digits_after most (high * 10 + (b - 48)) bytes).0 < grown most (bound * 10))
    → (cond s (high, b ∷ bytes) (cond t (high, b ∷ bytes) (digits_after most (high * 10 + (b - 48)) bytes))).0 < grown
    most (bound * 10)
step_low most high b bound bytes true t low up below more = let g = grows most (bound * 10) in omega (arith, g, below)
step_low most high b bound bytes false true low up below more = let g = grows most (bound * 10) in
    omega (arith, g, below)
step_low most high b bound bytes false false low up below more = let to : b ≤ 57 = ltb-false 57 b up in
    more (omega (arith, to, below))

digits_low : (most high bound : ℕ) (bytes : List ℕ) → high < bound → (digits_after most high bytes).0 < grown most bound
unfolding digits_after
digits_low zero high bound bytes below = below
digits_low (suc most) high bound [] below = let g = grows most (bound * 10) in omega (arith, g, below)
digits_low (suc most) high bound (b ∷ bytes) below =
    step_low most high b bound bytes (nat_lt b 48) (nat_lt 57 b) refl refl below (digits_low most (high * 10 + (b - 48))
    (bound * 10) bytes)

abbrev pub IsLow : Result (ℕ × List ℕ) ℕ → Type 0
IsLow (Ok x) = x.0 < 10000
IsLow (Err left) = Unit {0}

first_low : (b left : ℕ) (bytes : List ℕ) (s t : Bool) → nat_lt 57 b ≡ t
    → IsLow (cond s (Err left) (cond t (Err left) (Ok (digits_after 3 (b - 48) bytes))))
first_low b left bytes true t up = tt
first_low b left bytes false true up = tt
first_low b left bytes false false up = let to : b ≤ 57 = ltb-false 57 b up in digits_low 3 (b - 48) 10 bytes
    (omega (arith, to))

number_low : (bytes : List ℕ) → IsLow (number_at 4 bytes)
unfolding number_at
number_low [] = tt
number_low (b ∷ bytes) = first_low b _ bytes (nat_lt b 48) (nat_lt 57 b) refl

only_low : (x : ℕ × List ℕ) → x.0 < 10000 → unwrap_or (only (is_empty x.1) x.0) 0 < 10000
only_low (n, []) low = low
only_low (n, b ∷ bytes) low = lit< tt

whole_low : (r : Result (ℕ × List ℕ) ℕ) → IsLow r → unwrap_or (whole r) 0 < 10000
whole_low (Ok x) low = only_low x low
whole_low (Err left) low = lit< tt

-- a release that is read has four digits at most
pub release_low : (w : List ℕ) → release_in w < 10000
unfolding number
release_low w = whole_low (number_at 4 w) (number_low w)

-- ---- releases that are written

decimal_alone : (r : ℕ) → r < 10000 → number_at 4 (decimal r) ≡ Ok (r, [])
decimal_alone r low = ap (number_at 4) (sym (append-nil (decimal r))) ∙ number_round_trip 4 r [] (lit< tt)
    (lit≤ tt) low tt

pub decimal_digits : (r : ℕ) → r < 10000 → AreDigits (decimal r)
decimal_digits r low = read_digits (decimal r) (subst IsRead (sym (decimal_alone r low)) refl)

pub decimal_release : (r : ℕ) → r < 10000 → 0 < r → is_release (decimal r) ≡ true
unfolding number
decimal_release r low some = ap (λ x. nat_lt 0 (unwrap_or (whole x) 0)) (decimal_alone r low) ∙ lt-ltb 0 r some
