-- What the bytes of a p-file say (System V, p-file; POSIX, get -e): one line for each entry, of the SID that was got,
-- the SID that is to be made, login, date and time, and the lists of -i and -x where they were given. How lines are
-- read that this suite doesn't write is own: one or more blanks stand between two parts, blanks may stand at the end
-- and none at the start, each list stands at most once, in any order, and each line ends with LF.
use Rattle.std.specs.Prelude.{◌≡◌, ℕ, ◌+◌, ◌==◌, List, [], ◌∷◌, Option, Some, None, Result, Ok, Err, if◌then◌else◌}
use Rattle.sccs_base.specs.Cut.{cut}
use Rattle.sccs_base.specs.Login.{is_login}
use Rattle.sccs_sid.specs.Reading.{is_empty, only}
use Rattle.sccs_sid.specs.Sid.{sid_of}
use Rattle.sccs_sid.specs.SidLists.{list_of}
use Rattle.sccs_sid.specs.Moment.{moment_of}
use Rattle.sccs_sid.specs.Words.{◌>>=◌, found, begins_blank, words}
use Rattle.sccs_sid.specs.declared.sid_lists.Range.{Range}
use Rattle.sccs_pfile.specs.declared.entries.Edit.{Edit}
use Rattle.sccs_pfile.specs.declared.entries.PfileFault.{PfileFault}
use Rattle.sccs_pfile.specs.declared.entries.PfileFault.TheVariants.{BadPfile, Memory}

-- an entry without lists, of its five words
unfoldable pub without_lists : List ℕ → List ℕ → List ℕ → List ℕ → List ℕ → Option Edit
without_lists got made login date time = do
  g ← found (sid_of got)
  m ← found (sid_of made)
  who ← only (is_login login) login
  at ← found (moment_of date time)
  Some (record { got = g; made = m; login = who; moment = at; include = []; exclude = [] })

-- with the list of an option, i or x, that didn't stand yet
abbrev pub edit_with_list : Edit → ℕ → List Range → Option Edit
edit_with_list e letter ranges =
    if letter == 105 then only (is_empty e.include) (record e { include = ranges })
    else if letter == 120 then only (is_empty e.exclude) (record e { exclude = ranges })
    else None

-- with the list of a word `-iLIST` or `-xLIST`
unfoldable pub with_option : Edit → List ℕ → Option Edit
with_option e (dash ∷ letter ∷ list) = if dash == 45 then found (list_of list) >>= edit_with_list e letter else None
with_option e _ = None

-- with the list of the last word, where there is one more
abbrev pub with_last : List (List ℕ) → Edit → Option Edit
with_last [] e = Some e
with_last (word ∷ []) e = with_option e word
with_last (word ∷ next ∷ words) e = None

-- with the lists of none, one or two words
abbrev pub with_options : Edit → List (List ℕ) → Option Edit
with_options e [] = Some e
with_options e (word ∷ words) = with_option e word >>= with_last words

-- the entry of words
unfoldable pub entry_of_words : List (List ℕ) → Option Edit
entry_of_words (got ∷ made ∷ login ∷ date ∷ time ∷ options) = without_lists got made login date time
    >>= λ e. with_options e options
entry_of_words _ = None

-- the entry of a line without its LF
unfoldable pub entry_of : List ℕ → Option Edit
entry_of line = if begins_blank line then None else entry_of_words (words line)

abbrev pub edits_with_entry : ℕ → Option Edit → Result (List Edit) ℕ → Result (List Edit) ℕ
edits_with_entry number None rest = Err number
edits_with_entry number (Some e) (Ok edits) = Ok (e ∷ edits)
edits_with_entry number (Some e) (Err line) = Err line

-- the entries of lines, of which the first has a number, with the bytes behind the last LF; or the first line at fault
abbrev pub entries_from : ℕ → List (List ℕ) → List ℕ → Result (List Edit) ℕ
entries_from number [] [] = Ok []
entries_from number [] (b ∷ tail) = Err number
entries_from number (line ∷ lines) tail = edits_with_entry number (entry_of line) (entries_from (number + 1) lines tail)

abbrev pub entries_at : ℕ → List ℕ → Result (List Edit) ℕ
entries_at number bytes = entries_from number (cut bytes).lines (cut bytes).tail

-- the entries that all the bytes say, or the number of the first line that is no entry
unfoldable pub edits_of : List ℕ → Result (List Edit) ℕ
edits_of bytes = entries_at 1 bytes

-- the bytes are a p-file of these entries
abbrev pub IsPFile : List ℕ → List Edit → Type 0
IsPFile bytes edits = edits_of bytes ≡ Ok edits

-- What is read is this, or there was no memory.
abbrev pub ReadsEdits : Result (List Edit) PfileFault → Result (List Edit) ℕ → Type 0
ReadsEdits (Ok edits) read = read ≡ Ok edits
ReadsEdits (Err (BadPfile line)) read = read ≡ Err line
ReadsEdits (Err Memory) read = Unit {0}
