-- Entries of a text (own): a first line ends with two counts, then so many lines of one word each follow, and so many
-- lines of input.
use Rattle.std.specs.Prelude.{ℕ, ◌+◌, ◌&&◌, nat_lt, not, Bool, List, [], ◌∷◌, ◌++◌, length, take, drop, flat_map}
use Rattle.std.specs.Prelude.{Option, None, Some, option_map}
use Rattle.sccs_base.specs.Constants.{lf}
use Rattle.sccs_sid.specs.Reading.{behind, number, only, until}
use Rattle.sccs_batch.specs.declared.texts.Counts.{Counts}

infixl 10 ◌>>=◌
abbrev pub ◌>>=◌ : {A B : Type 0} → Option A → (A → Option B) → Option B
None >>= f = None
(Some x) >>= f = f x

-- the bytes up to the next blank, and those behind it
abbrev pub field_of : List ℕ → Option (List ℕ × List ℕ)
field_of bytes = option_map (λ rest. (until 32 bytes, rest)) (behind 32 bytes)

-- an entry has 1 to 1,000 words, and at most 10,000,000 lines of input
abbrev pub are_counts : ℕ → ℕ → Bool
are_counts words lines = nat_lt 0 words && (nat_lt words 1001 && nat_lt lines 10000001)

-- two fields that count words and lines of input
unfoldable pub counts_of : List ℕ → List ℕ → Option Counts
counts_of words lines = do
  word_count ← number 8 words
  line_count ← number 8 lines
  only (are_counts word_count line_count) (record { words = word_count; lines = line_count })

-- the lines behind the first one that are the entry's own are there
abbrev pub has_own : Counts → List (List ℕ) → Bool
has_own counts rest = not (nat_lt (length rest) (counts.words + counts.lines))

-- each line with its LF
abbrev pub with_lfs : List (List ℕ) → List ℕ
with_lfs lines = flat_map (λ (line : List ℕ). line ++ lf ∷ []) lines

abbrev pub words_in : Counts → List (List ℕ) → List (List ℕ)
words_in counts rest = take counts.words rest

abbrev pub input_in : Counts → List (List ℕ) → List ℕ
input_in counts rest = with_lfs (take counts.lines (drop counts.words rest))
