-- The text of a new file: POSIX, Shell and Utilities, admin, -i.
use Rattle.std.specs.Prelude.{ℕ, Bool, true, false, ◌==◌, List, [], ◌∷◌, length, Option, None, Some, Result, Ok, Err}
use Rattle.std.specs.Prelude.{if◌then◌else◌}
use Rattle.sccs_base.specs.Constants.{lf}
use Rattle.sccs_sid.specs.declared.refusals.Refusal.{Refusal}
use Rattle.sccs_sid.specs.declared.refusals.Refusal.TheVariants.{BadText, Missing}
use Rattle.sccs_disk.specs.Files.{Content}
use Rattle.sccs_script.specs.Checks.{bad_line}
use Rattle.sccs_words.specs.declared.commands.Given.{Given}
use Rattle.sccs_words.specs.declared.commands.Given.TheVariants.{No, Bare, From}

-- the file that an option names
abbrev pub named_by : Given → List (List ℕ)
named_by No = []
named_by Bare = []
named_by (From name) = name ∷ []

-- whether the text is that of the input
abbrev pub takes_input : Given → Bool
takes_input Bare = true
takes_input _ = false

-- none, the input, or the bytes of the file that is named
abbrev pub source : Given → List ℕ → List (Option Content) → Result (List ℕ) Refusal
source No input named = Ok []
source Bare input named = Ok input
source (From name) input (Some c ∷ named) = Ok c.bytes
source (From name) input _ = Err Missing

-- how many lines there are, or the first that begins with SOH
abbrev pub counted : List (List ℕ) → Option ℕ → Result ℕ ℕ
counted lines None = Ok (length lines)
counted lines (Some line) = Err line

abbrev pub count_lines : List (List ℕ) → Result ℕ ℕ
count_lines lines = counted lines (bad_line 0 lines)

abbrev pub or_bad_text : Result ℕ ℕ → Result ℕ Refusal
or_bad_text (Ok count) = Ok count
or_bad_text (Err line) = Err (BadText line)

-- the LF that a text without one at its end lacks
unfoldable pub lacking : List ℕ → List ℕ
lacking [] = []
lacking (b ∷ []) = if b == lf then [] else lf ∷ []
lacking (b ∷ c ∷ bytes) = lacking (c ∷ bytes)
