-- Which serials may be open behind items.
use Rattle.std.proofs.Common.{◌≡◌, ℕ, suc, ◌<◌, ◌==◌, max, false, cond, List, [], ◌∷◌, sym, subst, inl, inr, arith}
use Rattle.std.proofs.lemmas.Bool.{cases_Bool, eqb-true, false≢true}
use Rattle.sccs_history.specs.Body.{Mark, Closed, ByInsert, ByDelete, is_closed, mark, above}
use Rattle.sccs_history.specs.declared.headers.Item.{Item}
use Rattle.sccs_history.specs.declared.headers.Item.TheVariants.{Text, Insert, Delete, End}

open_below : (m n : ℕ) (k rest : Mark) (high : ℕ) → is_closed (cond (m == n) k rest) ≡ false → (is_closed rest ≡ false
    → n < high) → n < max (suc m) high
open_below m n k rest high opened below =
    elim (cases_Bool (m == n)) [
      | inl e ↦ let same : m ≡ n = eqb-true m n e in omega arith
      | inr e ↦ let low : n < high = below (subst (λ t. is_closed (cond t k rest) ≡ false) e opened) in omega arith
    ]

-- a serial that isn't closed is below the bound of the items
pub mark_below : (n : ℕ) (before : List Item) → is_closed (mark n before) ≡ false → n < above before
mark_below n [] opened = absurd (false≢true (sym opened))
mark_below n (Text text ∷ before) opened = mark_below n before opened
mark_below n (Insert m ∷ before) opened = open_below m n ByInsert (mark n before) (above before) opened
    (mark_below n before)
mark_below n (Delete m ∷ before) opened = open_below m n ByDelete (mark n before) (above before) opened
    (mark_below n before)
mark_below n (End m ∷ before) opened = open_below m n Closed (mark n before) (above before) opened (mark_below n before)
