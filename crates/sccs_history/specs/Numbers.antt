-- Lists of numbers, and sets of numbers, kept as lists that fall: each number once, greatest first.
use Rattle.std.specs.Prelude.{ℕ, zero, suc, ◌<◌, ◌==◌, Bool, true, false, not, ◌||◌, List, [], ◌∷◌}
pub use Rattle.sccs_sid.specs.Reading.{is_empty}

-- with an item in front where it is wanted
abbrev pub front_if : {A : Type 0} → Bool → A → List A → List A
front_if true x xs = x ∷ xs
front_if false x xs = xs

-- the numbers below a bound that pass a test, greatest first
abbrev pub falling : ℕ → (ℕ → Bool) → List ℕ
falling zero test = []
falling (suc m) test = front_if (test m) m (falling m test)

-- the first number of a list, 0 where there is none
abbrev pub first : List ℕ → ℕ
first [] = 0
first (n ∷ ns) = n

-- the number is in the list
abbrev pub has : List ℕ → ℕ → Bool
has [] n = false
has (m ∷ ms) n = m == n || has ms n

-- some number of the first list is in the second
abbrev pub share : List ℕ → List ℕ → Bool
share [] ns = false
share (m ∷ ms) ns = has ns m || share ms ns

-- the list without a number
abbrev pub without : ℕ → List ℕ → List ℕ
without n [] = []
without n (m ∷ ms) = front_if (not (m == n)) m (without n ms)

-- the numbers go strictly down, below a bound
abbrev pub Falls : ℕ → List ℕ → Type 0
Falls bound [] = Unit {0}
Falls bound (n ∷ ns) = (n < bound) × Falls n ns

-- the numbers go strictly down
abbrev pub IsFalling : List ℕ → Type 0
IsFalling [] = Unit {0}
IsFalling (n ∷ ns) = Falls n ns
