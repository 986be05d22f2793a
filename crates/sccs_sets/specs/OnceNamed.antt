-- The serials that several ranges name, each once.
use Rattle.std.specs.Prelude.{ℕ, List, [], ◌∷◌, Option, None, map}
use Rattle.std.specs.Option.{option_or}
use Rattle.sccs_sid.specs.declared.sids.Sid.{Sid}
use Rattle.sccs_sid.specs.declared.sid_lists.Range.{Range}
use Rattle.sccs_history.specs.Numbers.{without}
use Rattle.sccs_history.specs.declared.headers.Record.{Record}
use Rattle.sccs_sets.specs.Naming.{range_fault, range_named}

-- the serials of a range, in rising order of their SIDs
abbrev pub range_serials : List Record → Range → List ℕ
range_serials records range = map (λ q. q.serial) (range_named records range)

-- the SID at fault in the first range that has one
abbrev pub first_fault : List Record → List Range → Option Sid
first_fault records [] = None
first_fault records (range ∷ ranges) = option_or (range_fault records range) (first_fault records ranges)

-- each number at its first place, and at no other
abbrev pub first_places : List ℕ → List ℕ
first_places [] = []
first_places (n ∷ ns) = n ∷ without n (first_places ns)
