-- Words between gaps, without a word on how they are found.
use Rattle.std.specs.Prelude.{◌≡◌, ℕ, true, false, List, [], ◌∷◌, ◌++◌}
use Rattle.std.specs.List.{AllByRecursion}
use Rattle.sccs_sid.specs.Reading.{is_empty}
use Rattle.sccs_words.specs.MrWords.{is_gap}

abbrev pub AreGaps : List ℕ → Type 0
AreGaps bytes = AllByRecursion (λ b. is_gap b ≡ true) bytes

-- It isn't empty, and no byte of it is a gap.
pub record IsMrWord (word : List ℕ) : Type 0 where
  pub filled : is_empty word ≡ false
  pub whole : AllByRecursion (λ b. is_gap b ≡ false) word

-- a gap comes next, or the end
abbrev pub IsWordEnd : List ℕ → Type 0
IsWordEnd [] = Unit {0}
IsWordEnd (b ∷ bytes) = is_gap b ≡ true

-- The bytes are these words with gaps between two of them, and before the first and after the last as many as there
-- are.
abbrev pub AreWordsOf : List ℕ → List (List ℕ) → Type 0
AreWordsOf bytes [] = AreGaps bytes
AreWordsOf bytes (word ∷ words) =
    (gaps after : List ℕ) × (bytes ≡ gaps ++ (word ++ after)) × AreGaps gaps × IsMrWord word × IsWordEnd after
    × AreWordsOf after words
