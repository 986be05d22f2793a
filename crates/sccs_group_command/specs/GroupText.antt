-- The input of a group (own): each entry is a line `@ W I`, then W lines with one word each of a delta command, then I
-- lines of its script.
use Rattle.std.specs.Prelude.{◌≡◌, ℕ, zero, suc, ◌+◌, ◌&&◌, not, nat_lt, if◌then◌else◌, Bool, List, [], ◌∷◌, ◌++◌}
use Rattle.std.specs.Prelude.{length, codes, Option, None, Some, Result, Ok, Err}
use Rattle.std.specs.List.{list_any}
use Rattle.std.specs.Str.{bytes_eq}
use Rattle.sccs_sid.specs.Reading.{only}
use Rattle.sccs_words.specs.Meaning.{meaning}
use Rattle.sccs_words.specs.declared.commands.Command.{Command}
use Rattle.sccs_words.specs.declared.commands.Command.TheVariants.{Delta}
use Rattle.sccs_words.specs.declared.commands.Usage.{Usage}
use Rattle.sccs_batch.specs.Entries.{◌>>=◌, counts_of, field_of, has_own, input_in, words_in}
use Rattle.sccs_batch.specs.declared.texts.Counts.{Counts}
use Rattle.sccs_group_command.specs.declared.entries.GroupEntry.{GroupEntry}
use Rattle.sccs_group_command.specs.declared.entries.GroupFault.{GroupFault}
use Rattle.sccs_group_command.specs.declared.entries.GroupFault.TheVariants.{BadEntry, Memory}

-- `@ W I`, with single blanks
unfoldable pub head_of : List ℕ → Option Counts
head_of line = do
  mark ← field_of line
  marked ← only (bytes_eq mark.0 (codes "@")) mark.1
  words ← field_of marked
  counts_of words.0 words.1

-- the entry of words that are a delta command
abbrev pub entry_by : Result Command Usage → List ℕ → Option GroupEntry
entry_by (Ok (Delta words name)) script = Some (record { words = words; name = name; script = script })
entry_by meant script = None

-- An entry, and how many lines stand behind its first one that are its own.
abbrev pub Found : Type 0
Found = GroupEntry × ℕ

-- the entry that begins so, with its words and its script in the lines that follow
abbrev pub entry_with : Counts → List (List ℕ) → Option GroupEntry
entry_with counts rest = if has_own counts rest then entry_by (meaning (words_in counts rest)) (input_in counts rest)
    else None

-- whether some entry has the name
abbrev pub has_name : List GroupEntry → List ℕ → Bool
has_name entries name = list_any (λ (e : GroupEntry). bytes_eq e.name name) entries

-- a group has at most 1,000 entries, of different names
abbrev pub fits_behind : List GroupEntry → GroupEntry → Bool
fits_behind entries e = nat_lt (length entries) 1000 && not (has_name entries e.name)

-- the entry of a line and those behind it, as the next one of a group
abbrev pub entry_at : List GroupEntry → List ℕ → List (List ℕ) → Option Found
entry_at entries line rest = do
  counts ← head_of line
  entry ← entry_with counts rest
  only (fits_behind entries entry) (entry, counts.words + counts.lines)

-- one entry more, and then what is made of the lines behind it; or the number of its first line
abbrev pub go_on : List GroupEntry → ℕ → Option Found → (List GroupEntry → ℕ → Result (List GroupEntry) ℕ)
    → Result (List GroupEntry) ℕ
go_on entries number None rest = Err number
go_on entries number (Some found) rest = rest (entries ++ found.0 ∷ []) found.1

-- there is one entry at least
abbrev pub some_of : List GroupEntry → Result (List GroupEntry) ℕ
some_of [] = Err 1
some_of (e ∷ entries) = Ok (e ∷ entries)

-- the entries of lines from this number on, behind others and behind so many lines that are passed over
abbrev pub group_from : ℕ → ℕ → List GroupEntry → List (List ℕ) → Result (List GroupEntry) ℕ
group_from skip number entries [] = some_of entries
group_from zero number entries (line ∷ lines) = go_on entries number (entry_at entries line lines)
    (λ all own. group_from own (number + 1) all lines)
group_from (suc skip) number entries (line ∷ lines) = group_from skip (number + 1) entries lines

-- the entries of a group's lines, or the number of the first line of the first that is none
abbrev pub group_of : List (List ℕ) → Result (List GroupEntry) ℕ
group_of lines = group_from 0 1 [] lines

-- what reading answers
abbrev pub ReadsGroup : Result (List GroupEntry) GroupFault → Result (List GroupEntry) ℕ → Type 0
ReadsGroup (Ok entries) read = read ≡ Ok entries
ReadsGroup (Err (BadEntry number)) read = read ≡ Err number
ReadsGroup (Err Memory) read = Unit {0}

-- what reading the next entry answers: it is put behind the others, or it is none
abbrev pub AddsEntry : Result (Option ℕ) GroupFault → Option Found → List GroupEntry → List GroupEntry → Type 0
AddsEntry (Ok (Some own)) found entries all = (e : GroupEntry) × (found ≡ Some (e, own)) × (all ≡ entries ++ e ∷ [])
AddsEntry (Ok None) found entries all = found ≡ None
AddsEntry (Err fault) found entries all = fault ≡ Memory
