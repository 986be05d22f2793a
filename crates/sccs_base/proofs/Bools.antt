-- Tests joined by and, or and not.
use Rattle.std.proofs.Common.{◌≡◌, ℕ, ◌==◌, Bool, true, false, ◌&&◌, ◌||◌, refl, sym, rules}

pub or_none : (a : Bool) → (a || false) ≡ a
or_none true = refl
or_none false = refl

pub or_true : (a : Bool) → (a || true) ≡ true
or_true true = refl
or_true false = refl

pub or_assoc : (a b c : Bool) → (a || (b || c)) ≡ ((a || b) || c)
or_assoc true b c = refl
or_assoc false b c = refl

pub and_assoc : (a b c : Bool) → ((a && b) && c) ≡ (a && (b && c))
and_assoc true b c = refl
and_assoc false b c = refl

pub left_false : (a b : Bool) → (a || b) ≡ false → a ≡ false
left_false true b neither = cc
left_false false b neither = refl

pub right_false : (a b : Bool) → (a || b) ≡ false → b ≡ false
right_false true b neither = cc
right_false false b neither = neither

pub left_true : (a b : Bool) → (a && b) ≡ true → a ≡ true
left_true true b both = refl
left_true false b both = cc

pub right_true : (a b : Bool) → (a && b) ≡ true → b ≡ true
right_true true b both = both
right_true false b both = cc

-- each where the other
pub same_test : (a b : Bool) → (a ≡ true → b ≡ true) → (b ≡ true → a ≡ true) → a ≡ b
same_test true b there back = sym (there refl)
same_test false true there back = back refl
same_test false false there back = refl

pub equal_self : (n : ℕ) → (n == n) ≡ true
equal_self n = search rules
