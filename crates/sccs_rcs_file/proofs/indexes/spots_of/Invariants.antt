use Rattle.std.proofs.Common.{◌≡◌, ◌≤◌, ℕ, List, drop, length}
use Rattle.sccs_rcs_file.specs.Spots.{spot_at, spot_from}
use Rattle.sccs_rcs_file.proofs.indexes.spots_of.Given as goal

-- the items from a place on are there
abbrev pub invariant-items : goal.invariant-items
invariant-items g l =
    (l.at ≤ length l.fn.items)
    × ((name : List ℕ) → spot_at l.spots name ≡ spot_from g.T.Named.name_of l.at (drop l.at l.fn.items) name)

abbrev pub decreases-items : goal.decreases-items
decreases-items g l = l.at
