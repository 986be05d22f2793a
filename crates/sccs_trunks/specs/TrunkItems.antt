-- The items of lines of which each has at most one deleter: each longest run of lines with the same inserter and
-- deleter
-- stands in regions of its own. No deleter is written as 0, and so is no inserter where no line came yet.
use Rattle.std.specs.Prelude.{ℕ, zero, suc, ◌==◌, Bool, not, ◌&&◌, List, [], ◌∷◌, ◌++◌, if◌then◌else◌}
use Rattle.sccs_history.specs.Numbers.{first, front_if}
use Rattle.sccs_history.specs.Body.{HistoryLine}
use Rattle.sccs_history.specs.declared.headers.Item.{Item}
use Rattle.sccs_history.specs.declared.headers.Item.TheVariants.{Text, Insert, Delete, End}
use Rattle.sccs_trunks.specs.Trunks.{is_zero}

-- what stands before the lines of a region, and behind them
abbrev pub opens : ℕ → ℕ → List Item
opens inserter deleter = Insert inserter ∷ front_if (not (is_zero deleter)) (Delete deleter) []

abbrev pub closes : ℕ → ℕ → List Item
closes zero deleter = []
closes (suc inserter) deleter = front_if (not (is_zero deleter)) (End deleter) (End (suc inserter) ∷ [])

-- whether a line goes on with a region
abbrev pub goes_on : ℕ → ℕ → HistoryLine → Bool
goes_on inserter deleter line = line.inserter == inserter && first line.deleters == deleter

-- what stands before a line behind one of a region
abbrev pub between : ℕ → ℕ → HistoryLine → List Item
between inserter deleter line =
    if goes_on inserter deleter line then [] else closes inserter deleter ++ opens line.inserter (first line.deleters)

-- the items of lines behind one of a region
abbrev pub items_behind : ℕ → ℕ → List HistoryLine → List Item
items_behind inserter deleter [] = closes inserter deleter
items_behind inserter deleter (line ∷ lines) =
    between inserter deleter line ++ (Text line.text ∷ items_behind line.inserter (first line.deleters) lines)

abbrev pub items_of : List HistoryLine → List Item
items_of lines = items_behind 0 0 lines
