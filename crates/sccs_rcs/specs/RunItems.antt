-- The items of runs of lines, run by run.
use Rattle.std.specs.Prelude.{ℕ, ◌==◌, Bool, ◌&&◌, List, [], ◌∷◌, ◌++◌, map, if◌then◌else◌}
use Rattle.sccs_history.specs.declared.headers.Item.{Item}
use Rattle.sccs_history.specs.declared.headers.Item.TheVariants.{Text}
use Rattle.sccs_trunks.specs.TrunkItems.{closes, opens}
use Rattle.sccs_rcs.specs.declared.bodies.Region.{Region}
use Rattle.sccs_trunks.specs.declared.runs.LineRun.{LineRun}

-- whether a line goes on with the region of the last one
abbrev pub is_same : Region → Region → Bool
is_same last next = next.inserter == last.inserter && next.deleter == last.deleter

-- what stands between the last line and the next one
abbrev pub between_regions : Region → Region → List Item
between_regions last next =
    if is_same last next then [] else closes last.inserter last.deleter ++ opens next.inserter next.deleter

-- the region of the lines of a run
abbrev pub region_of : LineRun → Region
region_of run = record { inserter = run.inserter; deleter = run.deleter }

-- the items of lines of a region, behind a line of another
abbrev pub region_items : Region → Region → List (List ℕ) → List Item
region_items last next [] = []
region_items last next (line ∷ lines) = between_regions last next ++ map Text (line ∷ lines)

-- the items of a run behind a line
abbrev pub run_items : Region → LineRun → List Item
run_items last run = region_items last (region_of run) run.lines.now

abbrev pub behind_lines : Region → Region → List (List ℕ) → Region
behind_lines last next [] = last
behind_lines last next (line ∷ lines) = next

-- the region of the last line behind a run
abbrev pub region_behind : Region → LineRun → Region
region_behind last run = behind_lines last (region_of run) run.lines.now
