-- What stands up to a separator and behind it, by where the first one is.
use Rattle.std.proofs.Common.{◌≡◌, ◌≢◌, ℕ, zero, suc, ◌<◌, ◌==◌, true, false, List, [], ◌∷◌, length, take, drop, get_or}
use Rattle.std.proofs.Common.{None, Some, refl, ap, arith}
use Rattle.std.proofs.lemmas.Bool.{ne_eqb}
use Rattle.sccs_sid.specs.Reading.{until, behind}

-- no byte before a place is the separator
abbrev pub NoneBefore : ℕ → List ℕ → ℕ → Type 0
NoneBefore separator bytes n = (k : ℕ) → k < n → get_or bytes k 0 ≢ separator

later : (separator b : ℕ) (bytes : List ℕ) (n : ℕ) → NoneBefore separator (b ∷ bytes) (suc n)
    → NoneBefore separator bytes n
later separator b bytes n none k below = none (suc k) (omega arith)

is_other : (separator b : ℕ) (bytes : List ℕ) (n : ℕ) → NoneBefore separator (b ∷ bytes) (suc n)
    → (b == separator) ≡ false
is_other separator b bytes n none = ne_eqb b separator (none 0 (omega arith))

is_same : (separator b : ℕ) → b ≡ separator → (b == separator) ≡ true
is_same separator b e = grind arith

pub until_at : (separator at : ℕ) (bytes : List ℕ) → at < length bytes → get_or bytes at 0 ≡ separator
    → NoneBefore separator bytes at → take at bytes ≡ until separator bytes
unfolding until
until_at separator zero [] low is none = absurd (omega arith)
until_at separator (suc at) [] low is none = absurd (omega arith)
until_at separator zero (b ∷ bytes) low is none = rw (is_same separator b is) refl
until_at separator (suc at) (b ∷ bytes) low is none =
    rw (is_other separator b bytes at none) (ap (λ front. b ∷ front) (until_at separator at bytes (omega arith) is
    (later separator b bytes at none)))

pub behind_at : (separator at : ℕ) (bytes : List ℕ) → at < length bytes → get_or bytes at 0 ≡ separator
    → NoneBefore separator bytes at → Some (drop (suc at) bytes) ≡ behind separator bytes
unfolding behind
behind_at separator zero [] low is none = absurd (omega arith)
behind_at separator (suc at) [] low is none = absurd (omega arith)
behind_at separator zero (b ∷ bytes) low is none = rw (is_same separator b is) refl
behind_at separator (suc at) (b ∷ bytes) low is none =
    rw (is_other separator b bytes at none) (behind_at separator at bytes (omega arith) is
    (later separator b bytes at none))

pub until_none : (separator : ℕ) (bytes : List ℕ) → NoneBefore separator bytes (length bytes)
    → bytes ≡ until separator bytes
unfolding until
until_none separator [] none = refl
until_none separator (b ∷ bytes) none =
    rw (is_other separator b bytes (length bytes) none) (ap (λ front. b ∷ front) (until_none separator bytes
    (later separator b bytes (length bytes) none)))

pub behind_none : (separator : ℕ) (bytes : List ℕ) → NoneBefore separator bytes (length bytes)
    → None ≡ behind separator bytes
unfolding behind
behind_none separator [] none = refl
behind_none separator (b ∷ bytes) none =
    rw (is_other separator b bytes (length bytes) none) (behind_none separator bytes
    (later separator b bytes (length bytes) none))
