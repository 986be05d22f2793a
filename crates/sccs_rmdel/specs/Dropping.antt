-- A body without a delta, as a filter makes it that knows which regions are open: POSIX, rmdel; sccsfile(4), "Body".
use Rattle.std.specs.Prelude.{ℕ, ◌==◌, Bool, not, List, Some}
use Rattle.sccs_history.specs.Body.{inserter}
use Rattle.sccs_history.specs.Removal.{dropped_behind}
use Rattle.sccs_history.specs.declared.headers.Item.{Item}
use Rattle.sccs_history.specs.declared.headers.Item.TheVariants.{Text, Insert, Delete, End}
use Rattle.sccs_versions.specs.Regions.{OpensRegions}
use Rattle.sccs_copies.specs.Filters.{Filter}
use Rattle.sccs_rmdel.specs.declared.droppers.Dropper.{Dropper}

-- whether an item behind others stays: it is no control item of the serial, and no line that this inserted
abbrev pub stays : ℕ → List Item → Item → Bool
stays n before (Text text) = not (inserter before == n)
stays n before (Insert m) = not (m == n)
stays n before (Delete m) = not (m == n)
stays n before (End m) = not (m == n)

-- It stands behind items in whose open regions its weaver is; its output are the items to come that stay. It refuses no
-- body.
abbrev pub dropping : Filter Dropper
dropping = record {
  stands = λ d before. OpensRegions before d.weaver;
  output = λ d before rest. Some (dropped_behind d.serial before rest);
}
