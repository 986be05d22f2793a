-- Which serials are open behind items of a body.
use Rattle.std.proofs.Common.{◌≡◌, ℕ, Bool, true, false, List, refl, sym, ◌∙◌}
use Rattle.std.proofs.lemmas.Bool.{false≢true}
use Rattle.sccs_base.proofs.Bools.{same_test}
use Rattle.sccs_history.specs.Numbers.{falling, has, Falls}
use Rattle.sccs_history.specs.Body.{Mark, Closed, ByInsert, ByDelete, is_closed, mark, above}
use Rattle.sccs_history.specs.declared.headers.Item.{Item}
use Rattle.sccs_history.proofs.Falling.{falling_has, has-falling, falling-has, falling-alike}
use Rattle.sccs_history.proofs.OpenMarks.{mark_below}

-- the serials that pass a test by their mark
abbrev pub passing : (ℕ → Mark → Bool) → List Item → List ℕ
passing test before = falling (above before) (λ m. test m (mark m before))

-- the serials whose mark passes a test that no closed one passes
pub has_test : (before : List Item) (test : ℕ → Mark → Bool) → ((n : ℕ) → test n Closed ≡ false) → (n : ℕ)
    → has (falling (above before) (λ m. test m (mark m before))) n ≡ test n (mark n before)
has_test before test none n =
    same_test (has (falling (above before) (λ m. test m (mark m before))) n) (test n (mark n before))
    (λ there. (falling_has (above before) (λ m. test m (mark m before)) n there).1)
    (λ passes. has-falling (above before) (λ m. test m (mark m before)) n
    (mark_below n before (opened (mark n before) passes)) passes)
  where
    opened : (k : Mark) → test n k ≡ true → is_closed k ≡ false
    opened Closed passes = absurd (false≢true (sym (none n) ∙ passes))
    opened ByInsert passes = refl
    opened ByDelete passes = refl

-- two lists that fall and have the same numbers are the same
pub falling_same : (b : ℕ) (xs ys : List ℕ) → Falls b xs → Falls b ys → ((n : ℕ) → has xs n ≡ has ys n) → xs ≡ ys
falling_same b xs ys one two alike = sym (falling-has b xs one) ∙ (falling-alike b (has xs) (has ys) (λ m lt. alike m)
    ∙ falling-has b ys two)
