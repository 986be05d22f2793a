-- The lines that a set of serials shows.
use Rattle.std.specs.Prelude.{ℕ, Bool, not, ◌&&◌, List, [], ◌∷◌}
use Rattle.sccs_history.specs.Numbers.{front_if, has, share}
use Rattle.sccs_history.specs.Body.{HistoryLine}

-- the line's inserter is in the set, and none of its deleters
abbrev pub shows : List ℕ → HistoryLine → Bool
shows set line = has set line.inserter && not (share line.deleters set)

-- the texts of the lines that a set shows
abbrev pub select : List ℕ → List HistoryLine → List (List ℕ)
select set [] = []
select set (line ∷ lines) = front_if (shows set line) line.text (select set lines)
