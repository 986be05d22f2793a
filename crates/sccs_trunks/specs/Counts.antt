-- How many lines of a trunk's history each serial inserted, deleted and left unchanged.
use Rattle.std.specs.Prelude.{ℕ, suc, ◌+◌, ◌-◌, ◌<◌, ◌≤◌, List, [], ◌∷◌, length}
use Rattle.std.specs.List.{AllByRecursion}
use Rattle.sccs_history.specs.Body.{HistoryLine}
use Rattle.sccs_history.specs.Select.{select}
use Rattle.sccs_script_laws.specs.Weave.{deleted, inserted}
use Rattle.sccs_trunks.specs.TrunkHistories.{down}
use Rattle.sccs_trunks.specs.declared.counts.LineCounts.{LineCounts}
use Rattle.sccs_trunks.specs.declared.counts.Tally.{Tally}

-- A line with an inserter, and with one deleter at most, which is above it.
pub record IsInOrder (line : HistoryLine) : Type 0 where
  pub inserter : 0 < line.inserter
  pub deleters : AllByRecursion (λ d. line.inserter < d) line.deleters
  pub single : length line.deleters ≤ 1

-- the counts of a serial: what it left of the version before it are the lines of its own version but those that it
-- inserted
abbrev pub counts_at : ℕ → List HistoryLine → LineCounts
counts_at s lines = record {
  inserted = inserted s lines;
  deleted = deleted s lines;
  unchanged = length (select (down s) lines) - inserted s lines;
}

-- ---- how they are found

abbrev pub no_lines : Tally
no_lines = record { inserted = 0; deleted = 0 }

abbrev pub both : Tally → Tally → Tally
both a b = record { inserted = a.inserted + b.inserted; deleted = a.deleted + b.deleted }

-- how many of the lines a serial inserted and deleted
abbrev pub tally_of : List HistoryLine → ℕ → Tally
tally_of lines s = record { inserted = inserted s lines; deleted = deleted s lines }

-- more lines of each serial from one on
abbrev pub with_more : ℕ → (ℕ → Tally) → List Tally → List Tally
with_more s more [] = []
with_more s more (t ∷ tallies) = both t (more s) ∷ with_more (suc s) more tallies

-- the counts of a serial, where the version before it has so many lines
abbrev pub counted : ℕ → Tally → LineCounts
counted before t = record { inserted = t.inserted; deleted = t.deleted; unchanged = before - t.deleted }

-- those of serials in a row
abbrev pub counts_from : ℕ → List Tally → List LineCounts
counts_from before [] = []
counts_from before (t ∷ tallies) = counted before t ∷ counts_from (before - t.deleted + t.inserted) tallies
