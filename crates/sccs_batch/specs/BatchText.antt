-- The text of a batch (own): each entry is a line `@ DATE TIME LOGIN W I`, then W lines of one word each, then I lines
-- of input.
use Rattle.std.specs.Prelude.{ℕ, zero, suc, ◌+◌, ◌&&◌, ◌||◌, not, Bool, false, List, [], ◌∷◌, codes, Option, None, Some}
use Rattle.std.specs.Result.{result_ok}
use Rattle.std.specs.Str.{bytes_eq}
use Rattle.sccs_base.specs.Login.{is_login}
use Rattle.sccs_sid.specs.Moment.{moment_of}
use Rattle.sccs_sid.specs.Reading.{only}
use Rattle.sccs_batch.specs.Entries.{◌>>=◌, counts_of, field_of, has_own, input_in, words_in}
use Rattle.sccs_batch.specs.declared.entries.BatchEntry.{BatchEntry}
use Rattle.sccs_batch.specs.declared.entries.EntryHead.{EntryHead}
use Rattle.sccs_batch.specs.declared.entries.FoundEntry.{FoundEntry}

-- `@ DATE TIME LOGIN W I`, with single blanks
unfoldable pub head_of : List ℕ → Option EntryHead
head_of line = do
  mark ← field_of line
  marked ← only (bytes_eq mark.0 (codes "@")) mark.1
  date ← field_of marked
  time ← field_of date.1
  login ← field_of time.1
  words ← field_of login.1
  moment ← result_ok (moment_of date.0 time.0)
  who ← only (is_login login.0) login.0
  counts ← counts_of words.0 words.1
  Some (record { stamp = record { moment = moment; login = who }; counts = counts })

-- an entry is a single command: no list of commands
abbrev pub is_single : List (List ℕ) → Bool
is_single [] = false
is_single (word ∷ words) = not (bytes_eq word (codes "batch") || bytes_eq word (codes "soak"))

abbrev pub entry_with : EntryHead → List (List ℕ) → BatchEntry
entry_with head rest = record {
  stamp = head.stamp;
  words = words_in head.counts rest;
  input =
      input_in head.counts rest;
}

-- the entry that begins so, with its words and its input in the lines that follow
abbrev pub entry_by : EntryHead → List (List ℕ) → Option FoundEntry
entry_by head rest =
    only (has_own head.counts rest && is_single (words_in head.counts rest))
    (record { entry = entry_with head rest; lines = head.counts.words + head.counts.lines })

-- the entry of a line and those behind it
abbrev pub batch_entry : List ℕ → List (List ℕ) → Option FoundEntry
batch_entry line rest = head_of line >>= (λ head. entry_by head rest)

-- The entries of a batch up to the first that is none, and the number of its line, from 1.
pub record Batch : Type 0 where
  pub entries : List BatchEntry
  pub bad : Option ℕ

abbrev pub no_more : Option ℕ → Batch
no_more bad = record { entries = []; bad = bad }

-- an entry and those behind its lines, or none
abbrev pub batch_with : ℕ → Option FoundEntry → (ℕ → Batch) → Batch
batch_with number None rest = no_more (Some number)
batch_with number (Some found) rest = let more = rest found.lines in
    record { entries = found.entry ∷ more.entries; bad = more.bad }

-- the entries of lines from this number on, behind so many that are passed over
abbrev pub batch_from : ℕ → ℕ → List (List ℕ) → Batch
batch_from skip number [] = no_more None
batch_from zero number (line ∷ lines) = batch_with number (batch_entry line lines)
    (λ own. batch_from own (number + 1) lines)
batch_from (suc skip) number (line ∷ lines) = batch_from skip (number + 1) lines

abbrev pub batch_of : List (List ℕ) → Batch
batch_of lines = batch_from 0 1 lines
