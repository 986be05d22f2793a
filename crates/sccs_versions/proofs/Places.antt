-- Where a serial stands among the regions, and what stands in its place.
use Rattle.std.proofs.Common.{◌≡◌, ℕ, zero, suc, ◌-◌, ◌==◌, ◌<◌, ◌≤◌, cond, List, [], ◌∷◌, ◌++◌, take, ◌+◌, Option}
use Rattle.std.proofs.Common.{None, Some, Result, Ok, Err, Less, Equal, Greater, length, set, insert, remove, get_or}
use Rattle.std.proofs.Common.{option_map, refl, sym, ap, ◌∙◌, arith, tests, eq-eqb, lt-ltb, le-ltb}
use Rattle.std.proofs.Math.Seq.{take-suc}
use Rattle.std.specs.Bool.{⊤}
use Rattle.std.specs.List.{slice_get}
use Rattle.std.specs.List.Sorted.{IsBinarySearchResult, IsSearchInRange}
use Rattle.std.specs.Ordering.{nat_cmp, ordering_index}
use Rattle.std.proofs.lemmas.Bool.{ne_eqb}
use Rattle.std.proofs.lemmas.Option.{slice_get-get_or}
use Rattle.sccs_history.specs.Numbers.{Falls}
use Rattle.sccs_history.proofs.Falling.{IsFalling-from_Falls}
use Rattle.std.specs.Prelude.{Bool, true, false, not, ◌&&◌, ◌||◌, if◌then◌else◌}
use Rattle.sccs_versions.specs.Stacks.{after_first_region, AreAbove, first_serial, FitsAt, IsLow, IsPlace, stacked}
use Rattle.sccs_versions.specs.Stacks.{StandsAt}
use Rattle.sccs_versions.specs.Regions.{AreSorted, behind_one, without_region, first_insert, keeps, with_region}
use Rattle.sccs_versions.specs.Regions.{replaced_region, region_serials}
use Rattle.sccs_versions.specs.declared.regions.Region.{Region}

-- the bound is at most the first serial, and each serial is below the next
abbrev Rises : ℕ → List Region → Type 0
Rises b [] = ⊤
Rises b (e ∷ es) = (b ≤ e.serial) × Rises (suc e.serial) es

-- one more than the first serial
abbrev bound : List Region → ℕ
bound [] = 0
bound (r ∷ rs) = suc r.serial

bound_fits : (n : ℕ) (rs : List Region) → Falls n (region_serials rs) → bound rs ≤ n
bound_fits n [] falls = omega arith
bound_fits n (r ∷ rs) falls = omega (arith, falls.0)

sorted_below : (rs : List Region) (es : List Region) → AreSorted (stacked rs es) → AreSorted rs
sorted_below rs [] sorted = sorted
sorted_below rs (e ∷ es) sorted = IsFalling-from_Falls e.serial (region_serials rs) (sorted_below (e ∷ rs) es sorted)

rises : (rs : List Region) (es : List Region) → AreSorted (stacked rs es) → Rises (bound rs) es
rises rs [] sorted = tt
rises rs (e ∷ es) sorted = (bound_fits e.serial rs (sorted_below (e ∷ rs) es sorted), rises (e ∷ rs) es sorted)

above_all : (n b : ℕ) (es : List Region) → Rises b es → n < b → AreAbove n es
above_all n b [] rise lt = tt
above_all n b (e ∷ es) rise lt = (omega (arith, rise.0), above_all n (suc e.serial) es rise.1 (omega (arith, rise.0)))

-- each entry is at the bound or above it, and a later one above an earlier
high_get : (b : ℕ) (es : List Region) (j : ℕ) (d : Region) → Rises b es → j < length es → b ≤ (get_or es j d).serial
high_get b [] j d rise lt = absurd (omega arith)
high_get b (e ∷ es) zero d rise lt = rise.0
high_get b (e ∷ es) (suc j) d rise lt = let later = high_get (suc e.serial) es j d rise.1 (omega arith) in
    omega (arith, later, rise.0)

later_get : (b : ℕ) (es : List Region) (i j : ℕ) (d : Region) → Rises b es → i ≤ j → j < length es
    → (get_or es i d).serial ≤ (get_or es j d).serial
later_get b [] i j d rise le lt = absurd (omega arith)
later_get b (e ∷ es) zero zero d rise le lt = omega arith
later_get b (e ∷ es) zero (suc j) d rise le lt = let high = high_get (suc e.serial) es j d rise.1 (omega arith) in
    omega (arith, high)
later_get b (e ∷ es) (suc i) zero d rise le lt = absurd (omega arith)
later_get b (e ∷ es) (suc i) (suc j) d rise le lt = later_get (suc e.serial) es i j d rise.1 (omega arith) (omega arith)

-- a place where the serial stands, and one between the smaller and the greater serials
stands_at : (n b : ℕ) (es : List Region) (i : ℕ) → Rises b es → i < length es
    → ((d : Region) → (get_or es i d).serial ≡ n) → StandsAt n i es
stands_at n b [] i rise lt at = absurd (omega arith)
stands_at n b (e ∷ es) zero rise lt at = (at e, above_all n (suc e.serial) es rise.1 (omega (arith, at e)))
stands_at n b (e ∷ es) (suc i) rise lt at = stands_at n (suc e.serial) es i rise.1 (omega arith) at

above_get : (n : ℕ) (es : List Region) → ((k : ℕ) (d : Region) → k < length es → n < (get_or es k d).serial)
    → AreAbove n es
above_get n [] high = tt
above_get n (e ∷ es) high = (high 0 e (omega arith), above_get n es (λ k d lt. high (suc k) d (omega arith)))

fits_at : (n : ℕ) (es : List Region) (i : ℕ) → i ≤ length es → ((k : ℕ) (d : Region) → k < i
    → (get_or es k d).serial < n) → ((k : ℕ) (d : Region) → i ≤ k → k < length es → n < (get_or es k d).serial)
    → FitsAt n i es
fits_at n es zero le low high = above_get n es (λ k d lt. high k d (omega arith) lt)
fits_at n [] (suc i) le low high = tt
fits_at n (e ∷ es) (suc i) le low high = (
  low 0 e (omega arith),
  fits_at n es i (omega arith) (λ k d lt. low (suc k) d (omega arith))
      (λ k d ge lt. high (suc k) d (omega arith) (omega arith)),
)

equal_from_cmp : (a b : ℕ) → nat_cmp a b ≡ Equal → a ≡ b
equal_from_cmp a b e = grind (arith, tests)

less_from_cmp : (a b : ℕ) → nat_cmp a b ≡ Less → a < b
less_from_cmp a b e = grind (arith, tests)

greater_from_cmp : (a b : ℕ) → nat_cmp a b ≡ Greater → b < a
greater_from_cmp a b e = grind (arith, tests)

higher : (n a b : ℕ) → a ≤ b → ordering_index (nat_cmp a n) ≤ ordering_index (nat_cmp b n)
higher n a b le = grind (arith, tests)

-- what a binary search finds is the place
pub searched : (n : ℕ) (es : List Region) (found : Result ℕ ℕ) → AreSorted (stacked [] es)
    → IsSearchInRange found (length es) → IsBinarySearchResult (λ e. nat_cmp e.serial n) es found → IsPlace n es found
searched n es (Ok i) sorted bound at = stands_at n 0 es i (rises [] es sorted) bound
    (λ d. equal_from_cmp (get_or es i d).serial n (at d))
searched n es (Err i) sorted bound at =
    let parted = at (λ j k d le lt. higher n (get_or es j d).serial (get_or es k d).serial
    (later_get 0 es j k d (rises [] es sorted) le lt)) in
    fits_at n es i bound (λ k d lt. less_from_cmp (get_or es k d).serial n (parted.0 k d (omega arith) lt))
    (λ k d ge lt. greater_from_cmp (get_or es k d).serial n (parted.1 k d ge lt))

module _ (n : ℕ) (new : Option Region) where
  replaced_past : (r : Region) (rs : List Region) → n < r.serial → replaced_region n new (r ∷ rs) ≡ r ∷ replaced_region
      n new rs
  replaced_past r rs lt = ap (λ t. cond t (r ∷ replaced_region n new rs)
      (behind_one new (cond (r.serial == n) rs (r ∷ rs)))) (lt-ltb n r.serial lt)

  replaced_here : (r : Region) (rs : List Region) → r.serial ≡ n → replaced_region n new (r ∷ rs) ≡ behind_one new rs
  replaced_here r rs same =
      ap (λ t. cond t (r ∷ replaced_region n new rs) (behind_one new (cond (r.serial == n) rs (r ∷ rs))))
      (le-ltb n r.serial (omega arith))
      ∙ ap (λ t. behind_one new (cond t rs (r ∷ rs))) (eq-eqb r.serial n same)

  replaced_low : (rs : List Region) → IsLow n rs → replaced_region n new rs ≡ behind_one new rs
  replaced_low [] low = refl
  replaced_low (r ∷ rs) low =
      ap (λ t. cond t (r ∷ replaced_region n new rs) (behind_one new (cond (r.serial == n) rs (r ∷ rs))))
      (le-ltb n r.serial (omega (arith, low)))
      ∙ ap (λ t. behind_one new (cond t rs (r ∷ rs))) (ne_eqb r.serial n (λ e. omega (arith, low)))

  -- what stands above a serial stays
  replaced_above : (rs : List Region) (es : List Region) → AreAbove n es → replaced_region n new (stacked rs es)
      ≡ stacked (replaced_region n new rs) es
  replaced_above rs [] above = refl
  replaced_above rs (e ∷ es) above = replaced_above (e ∷ rs) es above.1 ∙ ap (λ l. stacked l es)
      (replaced_past e rs above.0)

  at_place : (rs : List Region) (e : Region) (es : List Region) → StandsAt n 0 (e ∷ es) → stacked (behind_one new rs) es
      ≡ replaced_region n new (stacked rs (e ∷ es))
  at_place rs e es stands =
      sym (replaced_above (e ∷ rs) es stands.1 ∙ ap (λ l. stacked l es) (replaced_here e rs stands.0))

  on_low : (rs : List Region) (es : List Region) → IsLow n rs → AreAbove n es → stacked (behind_one new rs) es
      ≡ replaced_region n new (stacked rs es)
  on_low rs es low above = sym (replaced_above rs es above ∙ ap (λ l. stacked l es) (replaced_low rs low))

module _ (n : ℕ) where
  -- an entry in the place of one of its serial
  set_stands : (v : Region) (rs : List Region) (es : List Region) (i : ℕ) → StandsAt n i es → stacked rs (set es i v)
      ≡ replaced_region n (Some v) (stacked rs es)
  set_stands v rs [] i stands = absurd stands
  set_stands v rs (e ∷ es) zero stands = at_place n (Some v) rs e es stands
  set_stands v rs (e ∷ es) (suc i) stands = set_stands v (e ∷ rs) es i stands

  -- none in the place of one of that serial
  remove_stands : (rs : List Region) (es : List Region) (i : ℕ) → StandsAt n i es → stacked rs (remove es i)
      ≡ replaced_region n None (stacked rs es)
  remove_stands rs [] i stands = absurd stands
  remove_stands rs (e ∷ es) zero stands = at_place n None rs e es stands
  remove_stands rs (e ∷ es) (suc i) stands = remove_stands (e ∷ rs) es i stands

  -- an entry of a new serial
  insert_fits : (v : Region) (rs : List Region) (es : List Region) (i : ℕ) → IsLow n rs → FitsAt n i es
      → stacked rs (insert es i v) ≡ replaced_region n (Some v) (stacked rs es)
  insert_fits v rs es zero low fits = on_low n (Some v) rs es low fits
  insert_fits v rs [] (suc i) low fits = sym (replaced_low n (Some v) rs low)
  insert_fits v rs (e ∷ es) (suc i) low fits = insert_fits v (e ∷ rs) es i fits.0 fits.1

  -- none where none stands
  none_fits : (rs : List Region) (es : List Region) (i : ℕ) → IsLow n rs → FitsAt n i es
      → stacked rs es ≡ replaced_region n None (stacked rs es)
  none_fits rs es zero low fits = on_low n None rs es low fits
  none_fits rs [] (suc i) low fits = sym (replaced_low n None rs low)
  none_fits rs (e ∷ es) (suc i) low fits = none_fits (e ∷ rs) es i fits.0 fits.1

pub opened_set : (v : Region) (es : List Region) (i : ℕ) → StandsAt v.serial i es → stacked [] (set es i v)
    ≡ with_region v (stacked [] es)
opened_set v es i stands = set_stands v.serial v [] es i stands

pub opened_insert : (v : Region) (es : List Region) (i : ℕ) → FitsAt v.serial i es → stacked [] (insert es i v)
    ≡ with_region v (stacked [] es)
opened_insert v es i fits = insert_fits v.serial v [] es i tt fits

pub closed_remove : (n : ℕ) (es : List Region) (i : ℕ) → StandsAt n i es → stacked [] (remove es i) ≡ without_region n
    (stacked [] es)
closed_remove n es i stands = remove_stands n [] es i stands

pub closed_same : (n : ℕ) (es : List Region) (i : ℕ) → FitsAt n i es → stacked [] es ≡ without_region n (stacked [] es)
closed_same n es i fits = none_fits n [] es i tt fits

-- the last entry has the greatest serial
last_serial : (rs : List Region) (es : List Region) (k : ℕ) (e : Region) → suc k ≡ length es → slice_get es k ≡ Some e
    → first_serial (stacked rs es) ≡ Some e.serial
last_serial rs [] k e end at = absurd (omega arith)
last_serial rs (d ∷ []) zero e end at = ap (option_map (λ (x : Region). x.serial)) at
last_serial rs (d ∷ f ∷ es) zero e end at = absurd (omega arith)
last_serial rs (d ∷ es) (suc k) e end at = last_serial (d ∷ rs) es k e (omega arith) at

pub greatest_last : (es : List Region) (e : Region) → slice_get es (length es - 1) ≡ Some e
    → Some e.serial ≡ first_serial (stacked [] es)
greatest_last [] e at = cc
greatest_last (d ∷ es) e at = sym (last_serial [] (d ∷ es) (length (d ∷ es) - 1) e (omega arith) at)

pub greatest_none : (es : List Region) → slice_get es (length es - 1) ≡ None → None ≡ first_serial (stacked [] es)
greatest_none [] at = refl
greatest_none (d ∷ es) at =
    let there = slice_get-get_or (d ∷ es) (length (d ∷ es) - 1) d (omega arith) in
    cc

-- ---- one region at the end

pub stacked_end : (rs : List Region) (es : List Region) (e : Region) → stacked rs (es ++ e ∷ []) ≡ e ∷ stacked rs es
stacked_end rs [] e = refl
stacked_end rs (d ∷ es) e = stacked_end (d ∷ rs) es e

pub stacked_take : (es : List Region) (n : ℕ) (d : Region) → n < length es → stacked [] (take (n + 1) es)
    ≡ get_or es n d ∷ stacked [] (take n es)
stacked_take es n d low =
    let more : n + 1 ≡ suc n = omega arith in
    ap (λ k. stacked [] (take k es)) more ∙ (ap (stacked []) (take-suc es n d low) ∙ stacked_end [] (take n es)
    (get_or es n d))

pub last_left : (es : List Region) (n : ℕ) (d : Region) → 0 < n → n ≤ length es → stacked [] (take n es) ≡ get_or es
    (n - 1) d ∷ stacked [] (take (n - 1) es)
last_left es n d some fits =
    let same : n ≡ n - 1 + 1 = omega arith in
    ap (λ k. stacked [] (take k es)) same ∙ stacked_take es (n - 1) d (omega arith)

pub popped_stack : (es left : List Region) (e : Region) → es ≡ left ++ e ∷ [] → stacked [] left ≡ after_first_region
    (stacked [] es)
popped_stack es left e is = sym (ap (λ l. after_first_region (stacked [] l)) is ∙ ap after_first_region
    (stacked_end [] left e))

-- ---- the first that decides

-- a region that is applied or by Insert decides, another one doesn't
decided : (inserts applied below : Bool) → (inserts || applied) ≡ true → (inserts && applied) ≡ (if inserts then applied
    else (not applied && below))
decided true applied below is = refl
decided false true below is = refl
decided false false below is = cc

undecided : (inserts applied below : Bool) → (inserts || applied) ≡ false
    → (if inserts then applied else (not applied && below)) ≡ below
undecided true applied below is = cc
undecided false true below is = cc
undecided false false below is = refl

-- the last of so many regions
abbrev last_of : List Region → ℕ → Region
last_of es n = get_or es (n - 1) (record { serial = 0; inserts = false; applied = false })

module _ (es : List Region) (n : ℕ) (some : 0 < n) (fits : n ≤ length es) where
  pub keep_found : keeps (stacked [] (take n es)) ≡ keeps (stacked [] es)
      → ((last_of es n).inserts || (last_of es n).applied) ≡ true → ((last_of es n).inserts && (last_of es n).applied)
      ≡ keeps (stacked [] es)
  keep_found rest is = decided (last_of es n).inserts (last_of es n).applied (keeps (stacked [] (take (n - 1) es))) is
      ∙ (ap keeps (sym (last_left es n (record { serial = 0; inserts = false; applied = false }) some fits)) ∙ rest)

  pub keep_passed : keeps (stacked [] (take n es)) ≡ keeps (stacked [] es)
      → ((last_of es n).inserts || (last_of es n).applied) ≡ false → keeps (stacked [] (take (n - 1) es)) ≡ keeps
      (stacked [] es)
  keep_passed rest is = sym (undecided (last_of es n).inserts (last_of es n).applied
      (keeps (stacked [] (take (n - 1) es))) is)
      ∙ (ap keeps (sym (last_left es n (record { serial = 0; inserts = false; applied = false }) some fits)) ∙ rest)

  pub inserter_found : first_insert (stacked [] (take n es)) ≡ first_insert (stacked [] es)
      → (last_of es n).inserts ≡ true → (last_of es n).serial ≡ first_insert (stacked [] es)
  inserter_found rest is = ap (λ b. if b then (last_of es n).serial else first_insert (stacked [] (take (n - 1) es)))
      (sym is) ∙ (ap first_insert (sym (last_left es n (record { serial = 0; inserts = false; applied = false }) some
      fits)) ∙ rest)

  pub inserter_passed : first_insert (stacked [] (take n es)) ≡ first_insert (stacked [] es)
      → (last_of es n).inserts ≡ false → first_insert (stacked [] (take (n - 1) es)) ≡ first_insert (stacked [] es)
  inserter_passed rest is = ap (λ b. if b then (last_of es n).serial else first_insert (stacked [] (take (n - 1) es)))
      (sym is) ∙ (ap first_insert (sym (last_left es n (record { serial = 0; inserts = false; applied = false }) some
      fits)) ∙ rest)
