-- The one written spelling of an intent.
use Rattle.std.specs.Prelude.{ℕ, ◌<◌, ◌≤◌, List, [], ◌∷◌, ◌++◌, length, flat_map}
use Rattle.sccs_base.specs.Constants.{blank, file_limit, lf}
use Rattle.sccs_intents.specs.Intents.{AreOthers, first_line, last_line}
use Rattle.sccs_intents.specs.declared.intents.IntentEntry.{IntentEntry}
use Rattle.sccs_intents.specs.declared.intents.Fate.{Fate}
use Rattle.sccs_intents.specs.declared.intents.Fate.TheVariants.{Replaced, Removed}

-- a line and its LF
abbrev pub ended : List ℕ → List ℕ
ended line = line ++ lf ∷ []

abbrev pub letter_of : Fate → ℕ
letter_of Replaced = 114
letter_of Removed = 100

abbrev pub entry_line : IntentEntry → List ℕ
entry_line e = letter_of e.fate ∷ blank ∷ e.name

abbrev pub entry_text : IntentEntry → List ℕ
entry_text e = ended (entry_line e)

-- the text of an intent
abbrev pub intent_text : List IntentEntry → List ℕ
intent_text entries = ended first_line ++ (flat_map entry_text entries ++ ended last_line)

-- The entries are those of an intent: there is one at least, their names are those of s-files and differ, and the text
-- is
-- within the limit of a file.
pub record IsIntent (entries : List IntentEntry) : Type 0 where
  pub some : 0 < length entries
  pub others : AreOthers entries
  pub short : length (intent_text entries) ≤ file_limit
