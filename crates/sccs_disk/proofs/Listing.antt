-- The names that lead somewhere are those of the view, each once.
use Rattle.std.specs.Prelude.{Contains, is_some}
use Rattle.std.specs.List.{IsDistinct, AllByRecursion}
use Rattle.std.specs.Str.{bytes_eq}
use Rattle.std.proofs.Common.{◌≡◌, ℕ, zero, suc, ◌<◌, ◌⊎◌, Bool, true, false, cond, List, [], ◌∷◌, length, slice_get}
use Rattle.std.proofs.Common.{Option, None, Some, option_map, inl, inr, refl, sym, ap, ◌∙◌, ⊎_elim, arith}
use Rattle.sccs_base.proofs.SameBytes.{same_bytes, bytes_eq_sym}
use Rattle.sccs_disk.proofs.Places.{next, none_has, none_later}
use Rattle.sccs_disk.proofs.Puts.{same_name}
use Rattle.sccs_disk.specs.Files.{File, file_at}
use Rattle.sccs_disk.specs.Places.{place_of, AreOnce, names_placed}
use Rattle.sccs_disk.specs.Reads.{IsListing}
use Rattle.sccs_disk.specs.States.{State, AreNamesPlaced, shown}

later_in : {X : Type 0} (x y : X) (xs : List X) → Contains xs y → Contains (x ∷ xs) y
later_in x y xs there = (suc there.0, omega (arith, there.1), there.2)

in_cases : {X : Type 0} (x y : X) (xs : List X) → Contains (x ∷ xs) y → (x ≡ y) ⊎ Contains xs y
in_cases x y xs (zero, low, is) = inl is
in_cases x y xs (suc k, low, is) = inr (k, omega arith, is)

some_next : (t : Option ℕ) → is_some t ≡ is_some (next t)
some_next None = refl
some_next (Some p) = refl

some_first : (b : Bool) (t : Option ℕ) → b ≡ true → is_some (cond b (Some 0) (next t)) ≡ true
some_first true t e = refl
some_first false t e = cc

some_later : (b : Bool) (t : Option ℕ) → is_some t ≡ true → is_some (cond b (Some 0) (next t)) ≡ true
some_later true t e = refl
some_later false t e = sym (some_next t) ∙ e

leads : (names : List (Option (List ℕ))) (n : List ℕ) → Contains (names_placed names) n → is_some (place_of names n)
    ≡ true
leads [] n there = absurd (omega (arith, there.1))
leads (None ∷ names) n there = sym (some_next (place_of names n)) ∙ leads names n there
leads (Some k ∷ names) n there =
    ⊎_elim (λ is. some_first (bytes_eq k n) (place_of names n) (ap (bytes_eq k) (sym is) ∙ same_bytes k))
    (λ later. some_later (bytes_eq k n) (place_of names n) (leads names n later))
    (in_cases k n (names_placed names) there)

from_test : (k n : List ℕ) (names : List (Option (List ℕ))) (b : Bool) → bytes_eq k n ≡ b
    → is_some (cond b (Some 0) (next (place_of names n))) ≡ true → (is_some (place_of names n) ≡ true
    → Contains (names_placed names) n) → Contains (k ∷ names_placed names) n
from_test k n names true e some later = (0, omega arith, same_name k n e)
from_test k n names false e some later = later_in k n (names_placed names) (later (some_next (place_of names n) ∙ some))

is_listed : (names : List (Option (List ℕ))) (n : List ℕ) → is_some (place_of names n) ≡ true
    → Contains (names_placed names) n
is_listed [] n some = cc
is_listed (None ∷ names) n some = is_listed names n (some_next (place_of names n) ∙ some)
is_listed (Some k ∷ names) n some = from_test k n names (bytes_eq k n) refl some (is_listed names n)

others : (names : List (Option (List ℕ))) (k : List ℕ) → place_of names k ≡ None
    → AllByRecursion (λ y. bytes_eq k y ≡ false) (names_placed names)
others [] k none = tt
others (None ∷ names) k none = others names k (none_later false (place_of names k) none)
others (Some y ∷ names) k none = (
  bytes_eq_sym k y ∙ none_has (bytes_eq y k) (place_of names k) none,
  others names k
      (none_later (bytes_eq y k) (place_of names k) none),
)

distinct : (names : List (Option (List ℕ))) → AreOnce names → IsDistinct bytes_eq (names_placed names)
unfolding IsDistinct
distinct [] once = tt
distinct (None ∷ names) once = distinct names once.1
distinct (Some k ∷ names) once = (others names k (once.0 k (same_bytes k)), distinct names once.1)

file_there : (files : List File) (t : Option ℕ) → ((p : ℕ) → t ≡ Some p → p < length files)
    → is_some (option_map (λ (f : File). f.content) (file_at files t)) ≡ is_some t
file_there files None within = refl
file_there files (Some p) within = at (slice_get files p) (found files p (within p refl))
  where
    at : (o : Option File) → is_some o ≡ true → is_some (option_map (λ (f : File). f.content) o) ≡ true
    at None e = cc
    at (Some f) e = refl

    found : (files : List File) (p : ℕ) → p < length files → is_some (slice_get files p) ≡ true
    found [] p low = absurd (omega arith)
    found (f ∷ files) zero low = refl
    found (f ∷ files) (suc p) low = found files p (omega arith)

pub listing : (s : State) (names : List (Option (List ℕ))) → AreNamesPlaced s → s.names ≡ place_of names → AreOnce names
    → IsListing (shown s) (names_placed names)
listing s names placed is once = record {
  once = distinct names once;
  each = λ n.
      let same : is_some (shown s n) ≡ is_some (place_of names n) = file_there s.files (s.names n) (placed.within n)
      ∙ ap (λ (t : List ℕ → Option ℕ). is_some (t n)) is in
      (λ there. same ∙ leads names n there, λ some. is_listed names n (sym same ∙ some));
}
