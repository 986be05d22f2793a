-- The live deltas of a table by the places of their SIDs (own).
use Rattle.std.specs.Prelude.{◌≡◌, ℕ, ◌==◌, List, map, if◌then◌else◌}
use Rattle.std.specs.BTreeMap.{get}
use Rattle.std.specs.Option.{option_to_list}
use Rattle.sccs_sid.specs.declared.sids.Sid.{Sid}
use Rattle.sccs_sid.specs.declared.sid_lists.Range.{Range}
use Rattle.sccs_history.specs.declared.headers.Record.{Record}
use Rattle.sccs_sets.specs.Naming.{in_range, sid_named}
use Rattle.sccs_sets.specs.Retrieved.{live_where}
use Rattle.sccs_sets.specs.declared.live_indexes.LiveIndex.{LiveIndex}
use Rattle.sccs_sid.specs.FourNumbers.{four_cmp}

-- the range of one SID
abbrev pub single : Sid → Range
single sid = record { first = sid; last = sid }

-- where a SID stands: on the trunk by release and level, on a branch by all four numbers
abbrev pub place_of : Sid → ℕ × ℕ × ℕ × ℕ
place_of sid = (sid.release, sid.level, sid.branch, if sid.branch == 0 then 0 else sid.sequence)

-- at the place of each SID stands the one live delta that the range of this SID names, or none
abbrev pub HasDeltas : LiveIndex → List Record → Type 0
HasDeltas index records =
    (sid : Sid) → option_to_list (get four_cmp index.deltas (place_of sid)) ≡ map sid_named
    (live_where (in_range (single sid)) records)
