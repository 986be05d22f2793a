-- One to four numbers, as the code holds them.
use Rattle.std.specs.Prelude.{ℕ, ◌<◌, List, [], ◌∷◌}
use Rattle.sccs_sid.specs.declared.sids.Numbers.{Numbers}
use Rattle.sccs_sid.specs.declared.sids.Numbers.TheVariants.{One, Two, Three, Four}

abbrev pub number_list : Numbers → List ℕ
number_list (One a) = a ∷ []
number_list (Two a b) = a ∷ b ∷ []
number_list (Three a b c) = a ∷ b ∷ c ∷ []
number_list (Four a b c d) = a ∷ b ∷ c ∷ d ∷ []

-- each has at most four digits
abbrev pub AreLow : Numbers → Type 0
AreLow (One a) = a < 10000
AreLow (Two a b) = (a < 10000) × (b < 10000)
AreLow (Three a b c) = (a < 10000) × (b < 10000) × (c < 10000)
AreLow (Four a b c d) = (a < 10000) × (b < 10000) × (c < 10000) × (d < 10000)
