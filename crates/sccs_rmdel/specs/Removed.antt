-- What the removal of a delta makes of a table, a header and a history: POSIX, rmdel; sccsfile(4), "Delta table".
use Rattle.std.specs.Prelude.{◌≡◌, ℕ, ◌==◌, ◌||◌, true, false, List, map}
use Rattle.sccs_history.specs.Applied.{Asked, applied, live_serials, path, version, version_of}
use Rattle.sccs_history.specs.Body.{HistoryLine}
use Rattle.sccs_history.specs.History.{History}
use Rattle.sccs_history.specs.Numbers.{has}
use Rattle.sccs_history.specs.Removal.{dropped_lines}
use Rattle.sccs_history.specs.Select.{select}
use Rattle.sccs_history.specs.declared.headers.Header.{Header}
use Rattle.sccs_history.specs.declared.headers.Record.{Record}

-- the record of a delta that is removed; all else stays
abbrev pub as_removed : Record → Record
as_removed r = record r { removed = true }

-- the record, removed where it is that of a serial
abbrev pub removed_record : ℕ → Record → Record
removed_record n r = record r { removed = r.removed || r.serial == n }

abbrev pub removed_records : ℕ → List Record → List Record
removed_records n records = map (removed_record n) records

-- a header with it; users, flags and description stay
abbrev pub without_delta : ℕ → Header → Header
without_delta n header = record header { records = removed_records n header.records }

-- the history without the delta: its record is removed, its lines are gone, and it deletes no line
abbrev pub history_without : ℕ → History → History
history_without n h = record { header = without_delta n h.header; lines = dropped_lines n h.lines }

-- What the removal of a delta leaves, version by version: each live delta has the set and the text that it had, and so
-- has whatever is asked for whose target doesn't descend from the delta and which doesn't take it in.
pub record KeepsVersions (n : ℕ) (records : List Record) (lines : List HistoryLine) : Type 0 where
  pub versions : (m : ℕ) → has (live_serials (removed_records n records)) m ≡ true
      → version m (removed_records n records) (dropped_lines n lines) ≡ version m records lines
  pub sets : (m : ℕ) → has (live_serials (removed_records n records)) m ≡ true
      → applied (version_of m) (removed_records n records) ≡ applied (version_of m) records
  pub asked : (a : Asked) → has (path a.target records) n ≡ false → has a.include n ≡ false
      → select (applied a (removed_records n records)) (dropped_lines n lines) ≡ select (applied a records) lines
