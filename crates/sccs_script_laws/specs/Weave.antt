-- What the orders of a script do to the lines of a history, for a new delta.
use Rattle.std.specs.Prelude.{ℕ, ◌<◌, ◌==◌, not, ◌&&◌, List, [], ◌∷◌, if◌then◌else◌}
use Rattle.std.specs.List.{AllByRecursion, count_by}
use Rattle.sccs_history.specs.Numbers.{has}
use Rattle.sccs_history.specs.Body.{HistoryLine}
use Rattle.sccs_history.specs.Select.{shows}
use Rattle.sccs_script_laws.specs.Scripts.{run}
use Rattle.sccs_script_laws.specs.declared.scripts.Order.{Order}

-- a new line of a serial
abbrev pub new_line : ℕ → List ℕ → HistoryLine
new_line n text = record { text = text; inserter = n; deleters = [] }

-- the line with a serial among its deleters, above all others
abbrev pub marked : ℕ → HistoryLine → HistoryLine
marked n line = record line { deleters = n ∷ line.deleters }

-- a deleted line stays with the serial among its deleters; one that the serial itself inserted goes
abbrev pub gone : ℕ → HistoryLine → List HistoryLine
gone n line = if line.inserter == n then [] else marked n line ∷ []

-- the orders on the lines of a history, for a serial above all others; line k is the k-th that the set with the
-- serial shows
abbrev pub weave : List ℕ → ℕ → List Order → List HistoryLine → List HistoryLine
weave set n orders lines = run (shows (n ∷ set)) (gone n) (new_line n) orders lines

-- A serial is above those of a line.
pub record IsBelow (n : ℕ) (line : HistoryLine) : Type 0 where
  pub inserter : line.inserter < n
  pub deleters : AllByRecursion (λ d. d < n) line.deleters

-- a serial is above those of all lines
abbrev pub AreBelow : ℕ → List HistoryLine → Type 0
AreBelow n lines = AllByRecursion (IsBelow n) lines

-- of the woven lines: how many the serial inserted
abbrev pub inserted : ℕ → List HistoryLine → ℕ
inserted n lines = count_by (λ line. line.inserter == n) lines

-- how many it deleted
abbrev pub deleted : ℕ → List HistoryLine → ℕ
deleted n lines = count_by (λ line. has line.deleters n) lines

-- how many lines of the base it left
abbrev pub unchanged : List ℕ → ℕ → List HistoryLine → ℕ
unchanged set n lines = count_by (λ line. shows set line && not (has line.deleters n)) lines
