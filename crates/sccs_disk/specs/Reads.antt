-- What reading calls answer, where the view is told.
use Rattle.std.specs.Prelude.{◌≡◌, ◌↔◌, ℕ, Bool, List, ◌++◌, length, take, drop, Option, None, Some, option_map, IsSome}
use Rattle.std.specs.Prelude.{Contains}
use Rattle.std.specs.List.{IsDistinct}
use Rattle.std.specs.Str.{bytes_eq}
use Rattle.sccs_disk.specs.Files.{Content, View}

-- the length of the file of that name
abbrev pub Measures : Option View → List ℕ → Option ℕ → Type 0
Measures None name answer = Unit {0}
Measures (Some view) name answer = answer ≡ option_map (λ (c : Content). length c.bytes) (view name)

-- The slice has at its front what the file has from a place on, as much as is there and fits.
abbrev pub ReadsFile : Option Content → ℕ → List ℕ → List ℕ → Option ℕ → Type 0
ReadsFile None from old new answer = (answer ≡ None) × (new ≡ old)
ReadsFile (Some c) from old new answer =
    let got = take (length old) (drop from c.bytes) in (answer ≡ Some (length got))
    × (new ≡ got ++ drop (length got) old)

abbrev pub Reads : Option View → List ℕ → ℕ → List ℕ → List ℕ → Option ℕ → Type 0
Reads None name from old new answer = Unit {0}
Reads (Some view) name from old new answer = ReadsFile (view name) from old new answer

-- whether the file of that name may be written
abbrev pub Marks : Option View → List ℕ → Option Bool → Type 0
Marks None name answer = Unit {0}
Marks (Some view) name answer = answer ≡ option_map (λ (c : Content). c.writable) (view name)

-- the names of a view, each once
pub record IsListing (view : View) (names : List (List ℕ)) : Type 0 where
  pub once : IsDistinct bytes_eq names
  pub each : (name : List ℕ) → Contains names name ↔ IsSome (view name)

abbrev pub Lists : Option View → List (List ℕ) → Type 0
Lists None names = Unit {0}
Lists (Some view) names = IsListing view names
