-- Words that are options and their values alone.
use Rattle.std.specs.Prelude.{ℕ, ◌+◌, ◌-◌, List, [], ◌∷◌, ◌++◌, Option, None, Some}
use Rattle.sccs_words.specs.Scan.{Uses, Kind, Letters, Ends, Operand, used, letters, word_kind}
use Rattle.sccs_words.specs.declared.tables.OptionSpec.{OptionSpec}
use Rattle.sccs_words.specs.declared.scanning.OptionArgument.TheVariants.{Value}
use Rattle.sccs_words.specs.declared.scanning.Use.{Use}

abbrev pub if_letters : Kind → (List ℕ → Option Uses) → Option Uses
if_letters (Letters bytes) more = more bytes
if_letters Ends more = None
if_letters Operand more = None

-- What is used after these words from number n on, and the letter that waits then; None where one of them ends the
-- options.
unfoldable pub options_read : List OptionSpec → ℕ → List Use → Option ℕ → List (List ℕ) → Option Uses
options_read options n uses (Some letter) [] = Some (uses, Some letter)
options_read options n uses (Some letter) (word ∷ words) = options_read options (n + 1) (uses ++ used letter (n - 1)
    (Value word n) ∷ []) None words
options_read options n uses None [] = Some (uses, None)
options_read options n uses None (word ∷ words) =
    if_letters (word_kind word) (λ bytes. options_read options (n + 1) (letters options n uses bytes).0
    (letters options n uses bytes).1 words)
