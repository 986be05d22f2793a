-- The options of a command line, one after the other, and the operands after them. Nothing is judged here.
use Rattle.std.specs.Prelude.{ℕ, ◌+◌, ◌-◌, ◌==◌, List, [], ◌∷◌, ◌++◌, length, Option, None, Some, if◌then◌else◌}
use Rattle.sccs_words.specs.Synopsis.{find_option}
use Rattle.sccs_words.specs.declared.tables.OptionSpec.{OptionSpec}
use Rattle.sccs_words.specs.declared.tables.OptionSpec.TheVariants.{Plain, Joined, Valued, Repeated}
use Rattle.sccs_words.specs.declared.scanning.OptionArgument.{OptionArgument}
use Rattle.sccs_words.specs.declared.scanning.OptionArgument.TheVariants.{Unknown, Bare, Missing, Value}
use Rattle.sccs_words.specs.declared.scanning.Use.{Use}
use Rattle.sccs_words.specs.declared.scanning.Turn.{Turn}
use Rattle.sccs_words.specs.declared.scanning.Turn.TheVariants.{On, Last, Wants}

-- the letter stands in word n, with this argument
abbrev pub used : ℕ → ℕ → OptionArgument → Use
used letter n argument = record { letter = letter; word = n; argument = argument }

-- a value in the rest of the word, or none
abbrev pub in_word : ℕ → List ℕ → OptionArgument
in_word n [] = Bare
in_word n (b ∷ rest) = Value (b ∷ rest) n

-- a value in the rest of the word, or in the next word
abbrev pub in_next : ℕ → ℕ → List ℕ → Turn
in_next letter n [] = Wants letter
in_next letter n (b ∷ rest) = Last (used letter n (Value (b ∷ rest) n))

-- what a letter of word n is, with the bytes after it
abbrev pub turn_by : Option OptionSpec → ℕ → ℕ → List ℕ → Turn
turn_by None letter n rest = On (used letter n Unknown)
turn_by (Some (Plain b)) letter n rest = On (used letter n Bare)
turn_by (Some (Joined b form)) letter n rest = Last (used letter n (in_word n rest))
turn_by (Some (Valued b form)) letter n rest = in_next letter n rest
turn_by (Some (Repeated b form)) letter n rest = in_next letter n rest

unfoldable pub turn : List OptionSpec → ℕ → ℕ → List ℕ → Turn
turn options n letter rest = turn_by (find_option options letter) letter n rest

-- what was used so far, and the letter that waits for its value
abbrev pub Uses : Type 0
Uses = List Use × Option ℕ

abbrev pub after_turn : List Use → Turn → (List Use → Uses) → Uses
after_turn uses (On one) more = more (uses ++ one ∷ [])
after_turn uses (Last one) more = (uses ++ one ∷ [], None)
after_turn uses (Wants letter) more = (uses, Some letter)

-- the letters of word n
unfoldable pub letters : List OptionSpec → ℕ → List Use → List ℕ → Uses
letters options n uses [] = (uses, None)
letters options n uses (b ∷ rest) = after_turn uses (turn options n b rest) (λ longer. letters options n longer rest)

-- what a word is, where an option may stand
pub data Kind : Type 0 where
  Letters : List ℕ → Kind
  Ends : Kind
  Operand : Kind

abbrev pub after_dash : List ℕ → Kind
after_dash [] = Operand
after_dash (b ∷ []) = if b == 45 then Ends else Letters (b ∷ [])
after_dash (b ∷ c ∷ rest) = Letters (b ∷ c ∷ rest)

abbrev pub word_kind : List ℕ → Kind
word_kind [] = Operand
word_kind (b ∷ rest) = if b == 45 then after_dash rest else Operand

-- The uses of options, the number of the first operand's word, and the operands.
pub record CommandLine : Type 0 where
  pub uses : List Use
  pub first : ℕ
  pub operands : List (List ℕ)

abbrev pub scanned_line : List Use → ℕ → List (List ℕ) → CommandLine
scanned_line uses first operands = record { uses = uses; first = first; operands = operands }

-- the number of words plus one
abbrev pub end_of : CommandLine → ℕ
end_of l = l.first + length l.operands

abbrev pub by_kind : ℕ → List Use → List ℕ → List (List ℕ) → Kind → (List ℕ → CommandLine) → CommandLine
by_kind n uses word words (Letters bytes) more = more bytes
by_kind n uses word words Ends more = scanned_line uses (n + 1) words
by_kind n uses word words Operand more = scanned_line uses n (word ∷ words)

-- the words from number n on, after these uses; a letter of the word before may wait for its value
unfoldable pub scanned : List OptionSpec → ℕ → List Use → Option ℕ → List (List ℕ) → CommandLine
scanned options n uses (Some letter) [] = scanned_line (uses ++ used letter (n - 1) Missing ∷ []) n []
scanned options n uses (Some letter) (word ∷ words) = scanned options (n + 1) (uses ++ used letter (n - 1)
    (Value word n) ∷ []) None words
scanned options n uses None [] = scanned_line uses n []
scanned options n uses None (word ∷ words) =
    by_kind n uses word words (word_kind word) (λ bytes. scanned options (n + 1) (letters options n uses bytes).0
    (letters options n uses bytes).1 words)
