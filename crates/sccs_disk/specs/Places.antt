-- For each place of a file, from 0 on, the name that leads there, if one does.
use Rattle.std.specs.Prelude.{◌≡◌, ℕ, suc, Bool, true, false, cond, List, [], ◌∷◌, Option, None, Some, option_map, ⊤}
use Rattle.std.specs.Str.{bytes_eq}
use Rattle.std.specs.Coded.{Coded-set, coded_ℕ, coded_option, ×_prop, Π_prop, Unit-prop}
use Rattle.sccs_disk.specs.Files.{Names}

abbrev pub has_name : Option (List ℕ) → List ℕ → Bool
has_name None n = false
has_name (Some k) n = bytes_eq k n

-- the place to which a name leads
abbrev pub place_of : List (Option (List ℕ)) → Names
place_of [] n = None
place_of (k ∷ names) n = cond (has_name k n) (Some 0) (option_map (λ p. suc p) (place_of names n))

-- no name leads to two places
abbrev pub AreOnce : List (Option (List ℕ)) → Type 0
AreOnce [] = ⊤
AreOnce (k ∷ names) = ((n : List ℕ) → has_name k n ≡ true → place_of names n ≡ None) × AreOnce names

-- the names that lead somewhere
abbrev pub names_placed : List (Option (List ℕ)) → List (List ℕ)
names_placed [] = []
names_placed (None ∷ names) = names_placed names
names_placed (Some k ∷ names) = k ∷ names_placed names

pub once_prop : (names : List (Option (List ℕ))) → IsProp (AreOnce names)
once_prop [] = Unit-prop
once_prop (k ∷ names) = ×_prop (Π_prop (λ n. Π_prop (λ h. Coded-set (coded_option coded_ℕ) _ _))) (once_prop names)
