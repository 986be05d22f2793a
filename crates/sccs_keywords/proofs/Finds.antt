-- The record of a serial, where serials fall.
use Rattle.std.proofs.Common.{◌≡◌, ◌≢◌, ℕ, zero, suc, ◌<◌, ◌≤◌, cond, List, [], ◌∷◌, None, Some, option_map, Result, Ok}
use Rattle.std.proofs.Common.{Err, Less, Equal, Greater, length, get_or, refl, sym, ap, ◌∙◌, arith, tests, eq-eqb, inl}
use Rattle.std.proofs.Common.{inr}
use Rattle.std.specs.List.Sorted.{IsBinarySearchResult, IsSearchInRange}
use Rattle.std.specs.Ordering.{nat_cmp, ordering_index}
use Rattle.std.proofs.lemmas.Bool.{cases_lt, ne_eqb}
use Rattle.std.proofs.lemmas.Option.{slice_get-get_or}
use Rattle.sccs_history.specs.Applied.{serials_of}
use Rattle.sccs_history.specs.Numbers.{Falls}
use Rattle.sccs_history.specs.declared.headers.Record.{Record}
use Rattle.sccs_keywords.specs.Forms.{sid_of_serial}
use Rattle.sccs_keywords.specs.Places.{sid_in}

-- each serial is below the bound, and a later one below an earlier
below_get : (b : ℕ) (rs : List Record) (j : ℕ) (d : Record) → Falls b (serials_of rs) → j < length rs
    → (get_or rs j d).serial < b
below_get b [] j d falls lt = absurd (omega arith)
below_get b (r ∷ rs) zero d falls lt = falls.0
below_get b (r ∷ rs) (suc j) d falls lt = let later = below_get r.serial rs j d falls.1 (omega arith) in
    omega (arith, later, falls.0)

later_get : (b : ℕ) (rs : List Record) (i j : ℕ) (d : Record) → Falls b (serials_of rs) → i ≤ j → j < length rs
    → (get_or rs j d).serial ≤ (get_or rs i d).serial
later_get b [] i j d falls le lt = absurd (omega arith)
later_get b (r ∷ rs) zero zero d falls le lt = omega arith
later_get b (r ∷ rs) zero (suc j) d falls le lt = let low = below_get r.serial rs j d falls.1 (omega arith) in
    omega arith
later_get b (r ∷ rs) (suc i) zero d falls le lt = absurd (omega arith)
later_get b (r ∷ rs) (suc i) (suc j) d falls le lt = later_get r.serial rs i j d falls.1 (omega arith) (omega arith)

found_at : (n b : ℕ) (rs : List Record) (i : ℕ) (d : Record) → Falls b (serials_of rs) → i < length rs
    → (get_or rs i d).serial ≡ n → Some (get_or rs i d).sid ≡ sid_of_serial rs n
found_at n b [] i d falls lt here = absurd (omega arith)
found_at n b (r ∷ rs) zero d falls lt here = sym (ap (λ t. cond t (Some r.sid) (sid_of_serial rs n))
    (eq-eqb r.serial n here))
found_at n b (r ∷ rs) (suc i) d falls lt here =
    let low = below_get r.serial rs i d falls.1 (omega arith) in
    found_at n r.serial rs i d falls.1 (omega arith) here
    ∙ sym (ap (λ t. cond t (Some r.sid) (sid_of_serial rs n)) (ne_eqb r.serial n (λ e. omega (arith, here, low, e))))

none_at : (n : ℕ) (rs : List Record) → ((k : ℕ) (d : Record) → k < length rs → (get_or rs k d).serial ≢ n)
    → None ≡ sid_of_serial rs n
none_at n [] other = refl
none_at n (r ∷ rs) other =
    none_at n rs (λ k d lt. other (suc k) d (omega arith))
    ∙ sym (ap (λ t. cond t (Some r.sid) (sid_of_serial rs n)) (ne_eqb r.serial n (other 0 r (omega arith))))

-- the record at a place has the serial
pub sid_here : (n : ℕ) (rs : List Record) (i : ℕ) (d : Record) → Falls 65536 (serials_of rs) → i < length rs
    → (get_or rs i d).serial ≡ n → Some (get_or rs i d).sid ≡ sid_of_serial rs n
sid_here n rs i d falls lt here = found_at n 65536 rs i d falls lt here

-- what is read at a place that a search found
pub sid_read : (rs : List Record) (i : ℕ) (d : Record) → i < length rs → sid_in rs (Ok i) ≡ Some (get_or rs i d).sid
sid_read rs i d lt = ap (option_map (λ (r : Record). r.sid)) (slice_get-get_or rs i d lt)

equal_from_cmp : (a b : ℕ) → nat_cmp a b ≡ Equal → b ≡ a
equal_from_cmp a b e = grind (arith, tests)

less_from_cmp : (a b : ℕ) → nat_cmp a b ≡ Less → a < b
less_from_cmp a b e = grind (arith, tests)

greater_from_cmp : (a b : ℕ) → nat_cmp a b ≡ Greater → b < a
greater_from_cmp a b e = grind (arith, tests)

higher : (n a b : ℕ) → b ≤ a → ordering_index (nat_cmp n a) ≤ ordering_index (nat_cmp n b)
higher n a b le = grind (arith, tests)

-- what a binary search finds has the SID of the serial
pub searched : (n : ℕ) (rs : List Record) (found : Result ℕ ℕ) → Falls 65536 (serials_of rs)
    → IsSearchInRange found (length rs) → IsBinarySearchResult (λ r. nat_cmp n r.serial) rs found
    → sid_in rs found ≡ sid_of_serial rs n
searched n [] (Ok i) falls bound at = absurd (omega arith)
searched n (r ∷ rs) (Ok i) falls bound at =
    sid_read (r ∷ rs) i r bound ∙ sid_here n (r ∷ rs) i r falls bound (equal_from_cmp n (get_or (r ∷ rs) i r).serial
    (at r))
searched n rs (Err i) falls bound at =
    let parted = at (λ j k d le lt. higher n (get_or rs j d).serial (get_or rs k d).serial
    (later_get 65536 rs j k d falls le lt)) in
    none_at n rs (λ k d lt. elim (cases_lt k i) [
      | inl low ↦ λ e. omega (arith, e, less_from_cmp n (get_or rs k d).serial (parted.0 k d (omega arith) low))
      | inr high ↦ λ e. omega (arith, e, greater_from_cmp n (get_or rs k d).serial (parted.1 k d high lt))
    ])
