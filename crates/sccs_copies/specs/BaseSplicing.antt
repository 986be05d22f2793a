-- A body with the items of a new delta, as a filter makes it that knows the set of the delta's base.
use Rattle.std.specs.Prelude.{ℕ, ◌+◌, ◌==◌, Bool, List, Option, None, Some, if◌then◌else◌}
use Rattle.sccs_history.specs.declared.headers.Item.{Item}
use Rattle.sccs_script_laws.specs.Places.{told_behind}
use Rattle.sccs_splicer.specs.Splices.{SplicerState, base_count, items_owed}
use Rattle.sccs_versions.specs.Regions.{Holds}
use Rattle.sccs_copies.specs.Filters.{Filter}
use Rattle.sccs_copies.specs.declared.base_splicers.BaseSplicer.{BaseSplicer}

-- what a splicer owes for items to come, where with those of them that are lines of the base it took so many
abbrev pub counted_output : SplicerState → ℕ → List (Item × Bool) → Option (List Item)
counted_output s lines told = if s.line + base_count told == lines then Some (items_owed s told) else None

-- It stands behind items in whose open regions its weaver is; its output are the items that are to come with those of
-- the new delta, where the set shows as many lines as were counted.
abbrev pub base_splicing : Filter BaseSplicer
base_splicing = record {
  stands = λ b before. Holds b.set before b.weaver;
  output = λ b before rest. counted_output b.splicer b.lines (told_behind b.set before rest);
}
