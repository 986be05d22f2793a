-- Where items stand by their names.
use Rattle.std.specs.Prelude.{ℕ, suc, not, List, [], ◌∷◌, Option, None, Some, if◌then◌else◌, slice_get}
use Rattle.std.specs.Borrow.{Bor}
use Rattle.std.specs.BTreeMap.{BTreeMap, get_by}
use Rattle.std.specs.Cmp.Lexicographic.{slice_cmp}
use Rattle.std.specs.Ordering.{nat_cmp}
use Rattle.std.specs.Str.{bytes_eq}
use Rattle.sccs_history.specs.Numbers.{is_empty}
use Rattle.sccs_rcs_file.specs.Lookups.{named}
use Rattle.sccs_rcs_file.specs.declared.spots.Spot.{Spot}

-- where the first item of a name stands, counted from a place on, and whether another one follows
abbrev pub spot_from : {A : Type 0} → (A → List ℕ) → ℕ → List A → List ℕ → Option Spot
spot_from name_of at [] name = None
spot_from name_of at (x ∷ items) name =
    if bytes_eq (name_of x) name then Some (record { at = at; again = not (is_empty (named name_of name items)) })
    else spot_from name_of (suc at) items name

-- what a map has at a name
abbrev pub spot_at : BTreeMap (Bor (List ℕ)) Spot → List ℕ → Option Spot
spot_at spots name = get_by (λ k. slice_cmp nat_cmp name k.now) spots

-- the item of a spot, where no other item has its name
abbrev pub item_of : {A : Type 0} → List A → Option Spot → Option A
item_of items None = None
item_of items (Some spot) = if spot.again then None else slice_get items spot.at
