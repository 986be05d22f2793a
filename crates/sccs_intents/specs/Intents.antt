-- The intent of a group (own): while the deltas of a group take their places, the file `sccs.intent` names its s-files,
-- each
-- with what becomes of its p-file. The first line is `sccs group 1`; then comes one line for each name, `r NAME` where
-- the new
-- p-file takes the place of the old one and `d NAME` where the p-file goes; the last line is `end`. Each line has LF at
-- its end
-- and nothing follows the last one. Names are those of s-files and differ, and there is one at least.
use Rattle.std.specs.Prelude.{◌≡◌, ℕ, ◌+◌, ◌==◌, nat_lt, Bool, false, not, ◌&&◌, List, [], ◌∷◌, ◌++◌, length, codes}
use Rattle.std.specs.Prelude.{Option, None, Some, option_map, find, Result, Ok, Err, if◌then◌else◌}
use Rattle.std.specs.List.{list_any}
use Rattle.std.specs.Str.{bytes_eq}
use Rattle.sccs_base.specs.Constants.{file_limit}
use Rattle.sccs_base.specs.Cut.{cut}
use Rattle.sccs_base.specs.Name.{IsName, IsSFileName, is_sfile_name}
use Rattle.sccs_disk.specs.Files.{Content}
use Rattle.sccs_sid.specs.Reading.{is_empty}
use Rattle.sccs_intents.specs.declared.intents.IntentEntry.{IntentEntry}
use Rattle.sccs_intents.specs.declared.intents.Fate.{Fate}
use Rattle.sccs_intents.specs.declared.intents.Fate.TheVariants.{Replaced, Removed}
use Rattle.sccs_intents.specs.declared.intents.IntentFault.{IntentFault}
use Rattle.sccs_intents.specs.declared.intents.IntentFault.TheVariants.{BadIntent, Memory}

-- the file that says what a group was about to do, and the one from which it is made by renaming
abbrev pub intent_file : List ℕ
intent_file = codes "sccs.intent"

abbrev pub plan_file : List ℕ
plan_file = codes "sccs.plan"

abbrev pub first_line : List ℕ
first_line = codes "sccs group 1"

abbrev pub last_line : List ℕ
last_line = codes "end"

-- what becomes of a p-file, by the letter of its line
abbrev pub fate_of : ℕ → Option Fate
fate_of letter = if letter == 114 then Some Replaced else if letter == 100 then Some Removed else None

abbrev pub entry_with : Option Fate → List ℕ → Option IntentEntry
entry_with None name = None
entry_with (Some fate) name = if is_sfile_name name then Some (record { name = name; fate = fate }) else None

-- the entry of a line without its LF
unfoldable pub entry_of : List ℕ → Option IntentEntry
entry_of (letter ∷ blank ∷ name) = if blank == 32 then entry_with (fate_of letter) name else None
entry_of _ = None

-- some entry has the name
abbrev pub has_name : List IntentEntry → List ℕ → Bool
has_name entries name = list_any (λ (e : IntentEntry). bytes_eq e.name name) entries

-- Its name is that of an s-file, and none of the others has it.
pub record IsOther (others : List IntentEntry) (e : IntentEntry) : Type 0 where
  pub name : IsName e.name
  pub sfile : IsSFileName e.name
  pub alone : has_name others e.name ≡ false

-- The names are those of s-files, and differ.
abbrev pub AreOthers : List IntentEntry → Type 0
AreOthers [] = Unit {0}
AreOthers (e ∷ entries) = IsOther entries e × AreOthers entries

-- one entry more, of another name
abbrev pub with_entry : List IntentEntry → Option IntentEntry → Option (List IntentEntry)
with_entry entries None = None
with_entry entries (Some e) = if has_name entries e.name then None else Some (entries ++ e ∷ [])

-- the line that ends an intent, behind one entry at least
abbrev pub closes : List IntentEntry → List ℕ → Bool
closes entries line = not (is_empty entries) && bytes_eq line last_line

-- nothing stands behind the last line, which would have this number
abbrev pub closed : ℕ → List IntentEntry → List (List ℕ) → List ℕ → Result (List IntentEntry) ℕ
closed number entries [] [] = Ok entries
closed number entries [] (b ∷ tail) = Err number
closed number entries (line ∷ lines) tail = Err number

-- with the entries, where the line of this number has one; else the line is at fault
abbrev pub go_on : ℕ → Option (List IntentEntry) → (List IntentEntry → Result (List IntentEntry) ℕ)
    → Result (List IntentEntry) ℕ
go_on number None rest = Err number
go_on number (Some entries) rest = rest entries

-- the entries of lines behind others, of which the next has a number, with the bytes behind the last LF; or the first
-- line
-- at fault
abbrev pub entries_from : ℕ → List IntentEntry → List (List ℕ) → List ℕ → Result (List IntentEntry) ℕ
entries_from number entries [] tail = Err number
entries_from number entries (line ∷ lines) tail =
    if closes entries line then closed (number + 1) entries lines tail
    else go_on number (with_entry entries (entry_of line)) (λ all. entries_from (number + 1) all lines tail)

abbrev pub entries_at : ℕ → List IntentEntry → List ℕ → Result (List IntentEntry) ℕ
entries_at number entries bytes = entries_from number entries (cut bytes).lines (cut bytes).tail

-- behind the first line
abbrev pub begun : List (List ℕ) → List ℕ → Result (List IntentEntry) ℕ
begun [] tail = Err 1
begun (line ∷ lines) tail = if bytes_eq line first_line then entries_from 2 [] lines tail else Err 1

-- the entries of an intent, or the number of the first line that isn't of its form; one past the limit is at fault in
-- line 1
unfoldable pub intent_of : List ℕ → Result (List IntentEntry) ℕ
intent_of bytes = if nat_lt file_limit (length bytes) then Err 1 else begun (cut bytes).lines (cut bytes).tail

-- the entries of a file; none where it isn't there or isn't of its form
abbrev pub well_formed : Result (List IntentEntry) ℕ → List IntentEntry
well_formed (Ok entries) = entries
well_formed (Err line) = []

abbrev pub entries_in : Option Content → List IntentEntry
entries_in None = []
entries_in (Some c) = well_formed (intent_of c.bytes)

-- what the entries say of a name
abbrev pub fate_in : List IntentEntry → List ℕ → Option Fate
fate_in entries name = option_map (λ (e : IntentEntry). e.fate) (find (λ (e : IntentEntry). bytes_eq e.name name)
    entries)

-- What is read is this, or there was no memory.
abbrev pub Reads : Result (List IntentEntry) IntentFault → Result (List IntentEntry) ℕ → Type 0
Reads (Ok entries) read = read ≡ Ok entries
Reads (Err (BadIntent line)) read = read ≡ Err line
Reads (Err Memory) read = Unit {0}

-- the entry of a line is added; or the line, which has a number, has none, or one of a name that is there
abbrev pub AddsEntry : Result (Unit {0}) IntentFault → ℕ → Option IntentEntry → List IntentEntry → List IntentEntry
    → Type 0
AddsEntry (Ok done) number e old new = with_entry old e ≡ Some new
AddsEntry (Err (BadIntent line)) number e old new = (line ≡ number) × (with_entry old e ≡ None)
AddsEntry (Err Memory) number e old new = Unit {0}
