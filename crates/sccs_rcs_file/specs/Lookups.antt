-- The one item of a name, where there is one and no other.
use Rattle.std.specs.Prelude.{ℕ, List, Option}
use Rattle.std.specs.List.{filter}
use Rattle.std.specs.Str.{bytes_eq}
use Rattle.sccs_sid.specs.Words.{one}

-- the items of a name, by what each is called
abbrev pub named : {A : Type 0} → (A → List ℕ) → List ℕ → List A → List A
named name_of name items = filter (λ x. bytes_eq (name_of x) name) items

abbrev pub one_named : {A : Type 0} → (A → List ℕ) → List ℕ → List A → Option A
one_named name_of name items = one (named name_of name items)
