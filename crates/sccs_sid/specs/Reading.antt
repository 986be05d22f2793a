-- Reading from left to right. A field is a value and the bytes after it. A fault is the number of bytes
-- that were left where nothing goes on.
use Rattle.std.specs.Prelude.{◌≡◌, ℕ, zero, suc, ◌+◌, ◌-◌, ◌*◌, ◌==◌, ◌||◌, Bool, true, false, List, [], ◌∷◌, length}
use Rattle.std.specs.Prelude.{nat_lt, Option, None, Some, Result, Ok, Err, if◌then◌else◌}

infixl 10 ◌>>=◌
abbrev pub ◌>>=◌ : {A B E : Type 0} → Result A E → (A → Result B E) → Result B E
(Ok x) >>= f = f x
(Err e) >>= f = Err e

-- what a function returned, seen by view, is what reading gives
abbrev pub GivesRead : {X Y E : Type 0} → (X → Y) → Result X E → Result Y E → Type 0
GivesRead view (Ok x) read = read ≡ Ok (view x)
GivesRead view (Err e) read = read ≡ Err e

-- up to `most` more digits after those of a number, and the bytes after them
unfoldable pub digits_after : ℕ → ℕ → List ℕ → ℕ × List ℕ
digits_after zero high bytes = (high, bytes)
digits_after (suc most) high [] = (high, [])
digits_after (suc most) high (b ∷ bytes) = if nat_lt b 48 then (high, b ∷ bytes) else if nat_lt 57 b
    then (high, b ∷ bytes) else digits_after most (high * 10 + (b - 48)) bytes

-- a number of one to `most` digits
unfoldable pub number_at : ℕ → List ℕ → Result (ℕ × List ℕ) ℕ
number_at most [] = Err 0
number_at most (b ∷ bytes) = if nat_lt b 48 then Err (suc (length bytes)) else if nat_lt 57 b then Err
    (suc (length bytes)) else Ok (digits_after (most - 1) (b - 48) bytes)

-- this one byte
unfoldable pub byte_at : ℕ → List ℕ → Result (List ℕ) ℕ
byte_at wanted [] = Err 0
byte_at wanted (b ∷ bytes) = if b == wanted then Ok bytes else Err (suc (length bytes))

abbrev pub is_empty : {A : Type 0} → List A → Bool
is_empty [] = true
is_empty (x ∷ xs) = false

-- the value, where the test holds
abbrev pub only : {A : Type 0} → Bool → A → Option A
only true x = Some x
only false x = None

abbrev pub whole : Result (ℕ × List ℕ) ℕ → Option ℕ
whole (Ok x) = only (is_empty x.1) x.0
whole (Err left) = None

-- the number of one to `most` digits that all the bytes spell
unfoldable pub number : ℕ → List ℕ → Option ℕ
number most bytes = whole (number_at most bytes)

-- the bytes up to the next separator, or to the end
unfoldable pub until : ℕ → List ℕ → List ℕ
until separator [] = []
until separator (b ∷ bytes) = if b == separator then [] else b ∷ until separator bytes

-- the bytes after the next separator, where one stands
unfoldable pub behind : ℕ → List ℕ → Option (List ℕ)
behind separator [] = None
behind separator (b ∷ bytes) = if b == separator then Some bytes else behind separator bytes

-- the bytes from the first on that fails a test
unfoldable pub skip : (ℕ → Bool) → List ℕ → List ℕ
skip passes [] = []
skip passes (b ∷ bytes) = if passes b then skip passes bytes else b ∷ bytes

abbrev pub is_no_digit : ℕ → Bool
is_no_digit b = nat_lt b 48 || nat_lt 57 b

-- without what stands before the first digit
abbrev pub from_digit : List ℕ → List ℕ
from_digit bytes = skip is_no_digit bytes
