-- The texts behind the marks @(#) of a file: POSIX, Shell and Utilities, what.
use Rattle.std.specs.Prelude.{ℕ, zero, suc, ◌+◌, Bool, false, not, ◌&&◌, ◌||◌, ◌==◌, List, [], ◌∷◌, ◌++◌, length, take}
use Rattle.std.specs.Prelude.{drop, flat_map, if◌then◌else◌}
use Rattle.sccs_base.specs.Constants.{lf}
use Rattle.sccs_sid.specs.Reading.{is_empty}

-- bytes begin with the mark @(#)
abbrev pub is_marked : List ℕ → Bool
is_marked (a ∷ b ∷ c ∷ d ∷ bytes) = a == 64 && (b == 40 && (c == 35 && d == 41))
is_marked _ = false

-- ", >, \, LF and NUL end a text
abbrev pub ends_text : ℕ → Bool
ends_text b = b == 34 || (b == 62 || (b == 92 || (b == lf || b == 0)))

-- the bytes up to one that ends a text, or to the end
abbrev pub until_end : List ℕ → List ℕ
until_end [] = []
until_end (b ∷ bytes) = if ends_text b then [] else b ∷ until_end bytes

-- The texts behind the marks of bytes of which so many at the front belong to what was found already. The search goes
-- on at the byte that ended the text before.
abbrev pub texts_behind_marks_after : ℕ → List ℕ → List (List ℕ)
texts_behind_marks_after skip [] = []
texts_behind_marks_after (suc skip) (b ∷ bytes) = texts_behind_marks_after skip bytes
texts_behind_marks_after zero (b ∷ bytes) =
    if is_marked (b ∷ bytes) then until_end (drop 3 bytes) ∷ texts_behind_marks_after
    (3 + length (until_end (drop 3 bytes))) bytes else texts_behind_marks_after zero bytes

-- the texts behind the marks of bytes
abbrev pub texts_behind_marks : List ℕ → List (List ℕ)
texts_behind_marks bytes = texts_behind_marks_after 0 bytes

-- with -s the first alone
abbrev pub only_first : Bool → List (List ℕ) → List (List ℕ)
only_first first texts = if first then take 1 texts else texts

-- a tab, a text and LF
abbrev pub text_line : List ℕ → List ℕ
text_line text = 9 ∷ text ++ lf ∷ []

-- the lines of the texts of bytes
abbrev pub marked_lines : Bool → List ℕ → List ℕ
marked_lines first bytes = flat_map text_line (only_first first (texts_behind_marks bytes))

-- what is printed of a file: its name and a colon, and a line for each text
abbrev pub what_text : Bool → List ℕ → List ℕ → List ℕ
what_text first n bytes = n ++ (58 ∷ lf ∷ marked_lines first bytes)

-- something is found
abbrev pub is_found : List ℕ → Bool
is_found bytes = not (is_empty (texts_behind_marks bytes))
