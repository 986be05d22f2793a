-- The words of a line are what stands between blanks. A blank is the byte 32.
use Rattle.std.specs.Prelude.{ℕ, ◌==◌, Bool, true, false, List, [], ◌∷◌, Option, Some, None, Result, Ok, Err}
use Rattle.std.specs.Prelude.{option_and_then, if◌then◌else◌}
use Rattle.sccs_base.specs.Constants.{blank}
use Rattle.sccs_sid.specs.Reading.{number_at, byte_at, number}

infixl 10 ◌>>=◌
abbrev pub ◌>>=◌ : {A B : Type 0} → Option A → (A → Option B) → Option B
o >>= f = option_and_then f o

-- the one element
abbrev pub one : {A : Type 0} → List A → Option A
one [] = None
one (x ∷ []) = Some x
one (x ∷ y ∷ xs) = None

-- what was read, whatever the fault
abbrev pub found : {A E : Type 0} → Result A E → Option A
found (Ok x) = Some x
found (Err e) = None

abbrev pub begins_blank : List ℕ → Bool
begins_blank [] = false
begins_blank (b ∷ bytes) = b == blank

unfoldable pub ends_blank : List ℕ → Bool
ends_blank [] = false
ends_blank (b ∷ []) = b == blank
ends_blank (b ∷ c ∷ bytes) = ends_blank (c ∷ bytes)

-- without the blanks at the start
unfoldable pub skip_blanks : List ℕ → List ℕ
skip_blanks [] = []
skip_blanks (b ∷ bytes) = if b == blank then skip_blanks bytes else b ∷ bytes

-- a byte before bytes without blanks at their end
abbrev pub kept : ℕ → List ℕ → List ℕ
kept b [] = if b == blank then [] else b ∷ []
kept b (c ∷ bytes) = b ∷ c ∷ bytes

-- without the blanks at the end
unfoldable pub drop_blanks : List ℕ → List ℕ
drop_blanks [] = []
drop_blanks (b ∷ bytes) = kept b (drop_blanks bytes)

-- a byte before words: it is a word by itself where a blank or nothing follows
abbrev pub joined : ℕ → List ℕ → List (List ℕ) → List (List ℕ)
joined b [] words = (b ∷ []) ∷ words
joined b (next ∷ bytes) [] = (b ∷ []) ∷ []
joined b (next ∷ bytes) (word ∷ words) = if next == blank then (b ∷ []) ∷ word ∷ words else (b ∷ word) ∷ words

abbrev pub with_byte : Bool → ℕ → List ℕ → List (List ℕ) → List (List ℕ)
with_byte true b bytes words = words
with_byte false b bytes words = joined b bytes words

unfoldable pub words : List ℕ → List (List ℕ)
words [] = []
words (b ∷ bytes) = with_byte (b == blank) b bytes (words bytes)

-- three numbers of at most that many digits, with a separator between two
unfoldable pub three : ℕ → ℕ → List ℕ → Option (ℕ × ℕ × ℕ)
three most separator word = do
  a ← found (number_at most word)
  after_a ← found (byte_at separator a.1)
  b ← found (number_at most after_a)
  after_b ← found (byte_at separator b.1)
  c ← number most after_b
  Some (a.0, b.0, c)

-- a word before the others, where it isn't empty
abbrev pub with_word : List ℕ → List (List ℕ) → List (List ℕ)
with_word [] others = []
with_word (b ∷ word) others = (b ∷ word) ∷ others
