-- The names that a set has.
use Rattle.std.specs.Prelude.{◌≡◌, ℕ, List, map}
use Rattle.std.specs.BTreeSet.{BTreeSet}
use Rattle.std.specs.Global.{Vec}
use Rattle.std.specs.List.{list_any}
use Rattle.std.specs.Str.{bytes_eq}

-- in byte order
abbrev pub names_in : BTreeSet (Vec ℕ) → List (List ℕ)
names_in set = map (λ (name : Vec ℕ). name.items) set.keys

-- the set has the names of a list
abbrev pub HasNames : BTreeSet (Vec ℕ) → List (List ℕ) → Type 0
HasNames set names = (n : List ℕ) → list_any (bytes_eq n) (names_in set) ≡ list_any (bytes_eq n) names
