-- What stands between blanks, tabs and LFs.
use Rattle.std.specs.Prelude.{ℕ, ◌==◌, Bool, ◌||◌, List, [], ◌∷◌, ◌++◌, if◌then◌else◌}

abbrev pub is_gap : ℕ → Bool
is_gap b = b == 32 || (b == 9 || b == 10)

-- the words, and this one after them unless it is empty
abbrev pub ended_word : List (List ℕ) → List ℕ → List (List ℕ)
ended_word words [] = words
ended_word words (b ∷ word) = words ++ (b ∷ word) ∷ []

-- the words of the bytes, after these words and a word that has begun
unfoldable pub split_from : List (List ℕ) → List ℕ → List ℕ → List (List ℕ)
split_from words word [] = ended_word words word
split_from words word (b ∷ bytes) = if is_gap b then split_from (ended_word words word) [] bytes else split_from words
    (word ++ b ∷ []) bytes

abbrev pub mr_words : List ℕ → List (List ℕ)
mr_words bytes = split_from [] [] bytes
