-- What is left of a list from a place on.
use Rattle.std.proofs.Common.{◌≡◌, ℕ, zero, suc, List, [], ◌∷◌, drop, Option, None, Some, slice_get, is_some, refl, sym}
use Rattle.std.proofs.Common.{ap}
use Rattle.std.proofs.lemmas.Bool.{false≢true}

pub from_place : {A : Type 0} (items : List A) (k : ℕ) (x : A) → slice_get items k ≡ Some x → drop k items ≡ x ∷ drop
    (suc k) items
from_place [] k x is = absurd (false≢true (ap is_some is))
from_place {A} (first ∷ items) zero x is = ap (λ o. cons_or o items) is
  where
    cons_or : Option A → List A → List A
    cons_or None rest = rest
    cons_or (Some y) rest = y ∷ rest
from_place (first ∷ items) (suc k) x is = from_place items k x is

pub from_end : {A : Type 0} (items : List A) (k : ℕ) → slice_get items k ≡ None → drop k items ≡ []
from_end [] zero is = refl
from_end [] (suc k) is = refl
from_end (first ∷ items) zero is = absurd (false≢true (sym (ap is_some is)))
from_end (first ∷ items) (suc k) is = from_end items k is
