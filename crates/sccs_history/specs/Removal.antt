-- What the removal of a delta takes out.
use Rattle.std.specs.Prelude.{ℕ, ◌==◌, not, List, [], ◌∷◌}
use Rattle.sccs_history.specs.Numbers.{front_if, without}
use Rattle.sccs_history.specs.Body.{HistoryLine, inserter}
use Rattle.sccs_history.specs.declared.headers.Item.{Item}
use Rattle.sccs_history.specs.declared.headers.Item.TheVariants.{Text, Insert, Delete, End}

-- the items behind others without a serial's control items and the lines that it inserted
abbrev pub dropped_behind : ℕ → List Item → List Item → List Item
dropped_behind n before [] = []
dropped_behind n before (Text text ∷ items) = front_if (not (inserter before == n)) (Text text)
    (dropped_behind n (Text text ∷ before) items)
dropped_behind n before (Insert m ∷ items) = front_if (not (m == n)) (Insert m)
    (dropped_behind n (Insert m ∷ before) items)
dropped_behind n before (Delete m ∷ items) = front_if (not (m == n)) (Delete m)
    (dropped_behind n (Delete m ∷ before) items)
dropped_behind n before (End m ∷ items) = front_if (not (m == n)) (End m) (dropped_behind n (End m ∷ before) items)

-- the items of a body without those of a serial
abbrev pub dropped : ℕ → List Item → List Item
dropped n items = dropped_behind n [] items

-- the lines without those that a serial inserted, and without it among the deleters
abbrev pub dropped_lines : ℕ → List HistoryLine → List HistoryLine
dropped_lines n [] = []
dropped_lines n (line ∷ lines) =
    front_if (not (line.inserter == n)) (record line { deleters = without n line.deleters }) (dropped_lines n lines)
