-- What one or several calls of a source or a sink do to what it tells. What told goes on telling.
use Rattle.std.specs.Prelude.{◌≡◌, ℕ, ◌<◌, ◌≤◌, ◌⊎◌, ◌↔◌, ◌+◌, min, List, [], ◌++◌, Option, None, Some, length, take}
use Rattle.std.specs.Prelude.{drop}

-- the last number that a count of calls or faults can hold
abbrev pub last_count : ℕ
last_count = 18446744073709551615

-- one call or fault more: at the last number the count stays there
abbrev pub one_more : ℕ → ℕ
one_more count = min (count + 1) last_count

-- A count of faults rose: it is greater, or it stands at the last number that it can hold.
abbrev pub Rose : ℕ → ℕ → Type 0
Rose before after = (before < after) ⊎ (after ≡ last_count)

-- the first n bytes that were left are at the start of the slice
abbrev pub TakesOk : Option (List ℕ) → Option (List ℕ) → List ℕ → List ℕ → ℕ → Type 0
TakesOk None after old new n = after ≡ None
TakesOk (Some left) after old new n =
    (n ≤ length left) × (after ≡ Some (drop n left)) × (new ≡ take n left ++ drop n old) × ((n ≡ 0) ↔ (left ≡ []))

-- nothing was moved
abbrev pub TakesNone : Option (List ℕ) → Option (List ℕ) → List ℕ → List ℕ → Type 0
TakesNone None after old new = after ≡ None
TakesNone (Some left) after old new = (after ≡ Some left) × (new ≡ old)

-- these bytes, a prefix of what was left, were taken
abbrev pub TakesFront : Option (List ℕ) → Option (List ℕ) → List ℕ → Type 0
TakesFront None after bytes = after ≡ None
TakesFront (Some left) after bytes = (rest : List ℕ) × (after ≡ Some rest) × (left ≡ bytes ++ rest)

-- these bytes are all that was left
abbrev pub TakesAll : Option (List ℕ) → Option (List ℕ) → List ℕ → Type 0
TakesAll None after bytes = after ≡ None
TakesAll (Some left) after bytes = (bytes ≡ left) × (after ≡ Some [])

-- at most n bytes were taken
abbrev pub TakesUpTo : ℕ → Option (List ℕ) → Option (List ℕ) → Type 0
TakesUpTo n before after = (bytes : List ℕ) × (length bytes ≤ n) × TakesFront before after bytes

-- all the bytes were appended
abbrev pub GivesOk : Option (List ℕ) → Option (List ℕ) → List ℕ → Type 0
GivesOk None after bytes = after ≡ None
GivesOk (Some given) after bytes = after ≡ Some (given ++ bytes)

-- a prefix of the bytes was appended
abbrev pub GivesSome : Option (List ℕ) → Option (List ℕ) → List ℕ → Type 0
GivesSome None after bytes = after ≡ None
GivesSome (Some given) after bytes = (n : ℕ) × (n ≤ length bytes) × (after ≡ Some (given ++ take n bytes))

-- Bytes that come after those that a buffer held: what is gone went to the sink, the rest is held.
pub record Buffers (held bytes left : List ℕ) (before after : Option (List ℕ)) : Type 0 where
  pub gone : List ℕ
  pub gives : GivesOk before after gone
  pub split : held ++ bytes ≡ gone ++ left
