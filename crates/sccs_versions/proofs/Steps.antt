-- How the open regions go on with an item.
use Rattle.std.proofs.Common.{◌≡◌, ℕ, suc, ◌+◌, ◌==◌, ◌<◌, ◌≤◌, nat_lt, Bool, true, false, cond, List, [], ◌∷◌, Option}
use Rattle.std.proofs.Common.{None, Some, refl, sym, subst, ap, ◌∙◌, arith}
use Rattle.std.specs.List.{AllByRecursion}
use Rattle.std.proofs.lemmas.Bool.{eqb-true, ne_eqb, eqb-false, ltb-true, ltb-false}
use Rattle.sccs_history.specs.Numbers.{has, Falls}
use Rattle.sccs_history.specs.Body.{Mark, Closed, ByInsert, ByDelete}
use Rattle.sccs_history.specs.declared.headers.Item.{Item}
use Rattle.sccs_history.specs.declared.headers.Item.TheVariants.{Text, Insert, Delete, End}
use Rattle.sccs_history.proofs.Falling.{Falls-wider, IsFalling-from_Falls}
use Rattle.sccs_versions.specs.Regions.{AreSorted, regions_after, behind_one, serial_mark, Holds, region_mark}
use Rattle.sccs_versions.specs.Regions.{OpensRegions, replaced_region, region_serials}
use Rattle.sccs_versions.specs.declared.regions.Region.{Region}

-- a bound of a sorted list
sorted_falls : (rs : List Region) → AreSorted rs → (b : ℕ) × Falls b (region_serials rs)
sorted_falls [] sorted = (0, tt)
sorted_falls (r ∷ rs) sorted = (suc r.serial, (omega arith, sorted))

same_twice : (t : Bool) (x y z : Mark) → cond t x z ≡ cond t x (cond t y z)
same_twice true x y z = refl
same_twice false x y z = refl

swapped : (s t : Bool) (x y z : Mark) → (s ≡ true → t ≡ true → ⊥) → cond s y (cond t x z) ≡ cond t x (cond s y z)
swapped true true x y z apart = absurd (apart refl refl)
swapped true false x y z apart = refl
swapped false true x y z apart = refl
swapped false false x y z apart = refl

closed_or : (t : Bool) (m : Mark) → (t ≡ true → m ≡ Closed) → m ≡ cond t Closed m
closed_or true m e = e refl
closed_or false m e = refl

-- a serial at the bound or above it isn't open
pub found_past : (b n : ℕ) (rs : List Region) → Falls b (region_serials rs) → b ≤ n → serial_mark n rs ≡ Closed
found_past b n [] falls le = refl
found_past b n (r ∷ rs) falls le =
    ap (λ t. cond t (region_mark r) (serial_mark n rs)) (ne_eqb r.serial n (λ e. omega (arith, falls.0)))
    ∙ found_past r.serial n rs falls.1 (omega (arith, falls.0))

-- What is put in the place of a serial's region: the serial then stands so.
record Fits (n : ℕ) (new : Option Region) (k : Mark) : Type 0 where
  stands : (m : ℕ) (xs : List Region) → Falls n (region_serials xs) → serial_mark m (behind_one new xs) ≡ cond
      (n == m) k (serial_mark m xs)
  low : (b : ℕ) (xs : List Region) → n < b → Falls n (region_serials xs) → Falls b (region_serials (behind_one new xs))

fits_one : (q : Region) → Fits q.serial (Some q) (region_mark q)
fits_one q = record {
  stands = λ m xs falls. refl;
  low = λ b xs lt falls. (lt, falls);
}

fits_none : (n : ℕ) → Fits n None Closed
fits_none n = record {
  stands = λ m xs falls. closed_or (n == m) (serial_mark m xs) (λ e. let same : n ≡ m = eqb-true n m e in
      found_past n m xs falls (omega arith));
  low = λ b xs lt falls. Falls-wider n b (region_serials xs) (omega arith) falls;
}

module _ (n : ℕ) (new : Option Region) (k : Mark) (fits : Fits n new k) where
  found_step : (m b : ℕ) (r : Region) (rs : List Region) (t s : Bool) → nat_lt n r.serial ≡ t → (r.serial == n) ≡ s
      → Falls b (region_serials (r ∷ rs))
      → serial_mark m (replaced_region n new rs) ≡ cond (n == m) k (serial_mark m rs)
      → serial_mark m (cond t (r ∷ replaced_region n new rs) (behind_one new (cond s rs (r ∷ rs)))) ≡ cond (n == m) k
      (serial_mark m (r ∷ rs))
  found_step m b r rs true s greater same falls ih =
      let above : n < r.serial = ltb-true n r.serial greater in
      ap (λ rest. cond (r.serial == m) (region_mark r) rest) ih
      ∙ swapped (r.serial == m) (n == m) k (region_mark r) (serial_mark m rs)
      (λ one two. omega (arith, eqb-true r.serial m one, eqb-true n m two))
  found_step m b r rs false true greater same falls ih =
      let here : r.serial ≡ n = eqb-true r.serial n same in
      fits.stands m rs (subst (λ i. Falls i (region_serials rs)) here falls.1)
      ∙ (same_twice (n == m) k (region_mark r) (serial_mark m rs)
      ∙ ap (λ i. cond (n == m) k (cond (i == m) (region_mark r) (serial_mark m rs))) (sym here))
  found_step m b r rs false false greater same falls ih =
      let other : r.serial ≡ n → ⊥ = eqb-false r.serial n same in
      let le : r.serial ≤ n = ltb-false n r.serial greater in
      fits.stands m (r ∷ rs) (omega arith, falls.1)

  found_replaced : (m b : ℕ) (rs : List Region) → Falls b (region_serials rs) → serial_mark m (replaced_region n new rs)
      ≡ cond (n == m) k (serial_mark m rs)
  found_replaced m b [] falls = fits.stands m [] tt
  found_replaced m b (r ∷ rs) falls =
      found_step m b r rs (nat_lt n r.serial) (r.serial == n) refl refl falls (found_replaced m r.serial rs falls.1)

  falls_step : (b : ℕ) (r : Region) (rs : List Region) (t s : Bool) → nat_lt n r.serial ≡ t → (r.serial == n) ≡ s
      → n < b → Falls b (region_serials (r ∷ rs))
      → (n < r.serial → Falls r.serial (region_serials (replaced_region n new rs)))
      → Falls b (region_serials (cond t (r ∷ replaced_region n new rs) (behind_one new (cond s rs (r ∷ rs)))))
  falls_step b r rs true s greater same lt falls ih = (falls.0, ih (ltb-true n r.serial greater))
  falls_step b r rs false true greater same lt falls ih =
      fits.low b rs lt (subst (λ i. Falls i (region_serials rs)) (eqb-true r.serial n same) falls.1)
  falls_step b r rs false false greater same lt falls ih =
      let other : r.serial ≡ n → ⊥ = eqb-false r.serial n same in
      let le : r.serial ≤ n = ltb-false n r.serial greater in
      fits.low b (r ∷ rs) lt (omega arith, falls.1)

  falls_replaced : (b : ℕ) (rs : List Region) → n < b → Falls b (region_serials rs)
      → Falls b (region_serials (replaced_region n new rs))
  falls_replaced b [] lt falls = fits.low b [] lt tt
  falls_replaced b (r ∷ rs) lt falls =
      falls_step b r rs (nat_lt n r.serial) (r.serial == n) refl refl lt falls
      (λ above. falls_replaced r.serial rs above falls.1)

  stands_replaced : (m : ℕ) (rs : List Region) → AreSorted rs → serial_mark m (replaced_region n new rs) ≡ cond
      (n == m) k (serial_mark m rs)
  stands_replaced m rs sorted = let falls = sorted_falls rs sorted in found_replaced m falls.0 rs falls.1

  sorted_replaced : (rs : List Region) → AreSorted rs → AreSorted (replaced_region n new rs)
  sorted_replaced rs sorted =
      let falls = sorted_falls rs sorted in
      IsFalling-from_Falls (suc n + falls.0) (region_serials (replaced_region n new rs))
      (falls_replaced (suc n + falls.0) rs (omega arith) (Falls-wider falls.0 (suc n + falls.0) (region_serials rs)
      (omega arith) falls.1))

module _ (P : Region → Type 0) (n : ℕ) (new : Option Region) (fits : (xs : List Region) → AllByRecursion P xs
    → AllByRecursion P (behind_one new xs)) where
  all_step : (r : Region) (rs : List Region) (t s : Bool) → P r → AllByRecursion P rs
      → AllByRecursion P (replaced_region n new rs)
      → AllByRecursion P (cond t (r ∷ replaced_region n new rs) (behind_one new (cond s rs (r ∷ rs))))
  all_step r rs true s here each ih = (here, ih)
  all_step r rs false true here each ih = fits rs each
  all_step r rs false false here each ih = fits (r ∷ rs) (here, each)

  all_replaced : (rs : List Region) → AllByRecursion P rs → AllByRecursion P (replaced_region n new rs)
  all_replaced [] each = fits [] tt
  all_replaced (r ∷ rs) each = all_step r rs (nat_lt n r.serial) (r.serial == n) each.0 each.1 (all_replaced rs each.1)

module _ (set : List ℕ) where
  -- the region that an item opens
  abbrev region : ℕ → Bool → Region
  region n inserts = record { serial = n; inserts = inserts; applied = has set n }

  pub sorted-behind : (item : Item) (rs : List Region) → AreSorted rs → AreSorted (regions_after set item rs)
  sorted-behind (Text text) rs sorted = sorted
  sorted-behind (Insert n) rs sorted = sorted_replaced n (Some (region n true)) ByInsert (fits_one (region n true)) rs
      sorted
  sorted-behind (Delete n) rs sorted = sorted_replaced n (Some (region n false)) ByDelete (fits_one (region n false)) rs
      sorted
  sorted-behind (End n) rs sorted = sorted_replaced n None Closed (fits_none n) rs sorted

  pub opens-behind : (item : Item) (before : List Item) (rs : List Region) → AreSorted rs → OpensRegions before rs
      → OpensRegions (item ∷ before) (regions_after set item rs)
  opens-behind (Text text) before rs sorted opens = opens
  opens-behind (Insert m) before rs sorted opens = λ n.
      stands_replaced m (Some (region m true)) ByInsert (fits_one (region m true)) n rs sorted
      ∙ ap (λ k. cond (m == n) ByInsert k) (opens n)
  opens-behind (Delete m) before rs sorted opens = λ n.
      stands_replaced m (Some (region m false)) ByDelete (fits_one (region m false)) n rs sorted
      ∙ ap (λ k. cond (m == n) ByDelete k) (opens n)
  opens-behind (End m) before rs sorted opens = λ n.
      stands_replaced m None Closed (fits_none m) n rs sorted ∙ ap (λ k. cond (m == n) Closed k) (opens n)

  -- each region tells whether its serial is in the set
  abbrev Tell : List Region → Type 0
  Tell rs = AllByRecursion (λ r. r.applied ≡ has set r.serial) rs

  tell-behind : (item : Item) (rs : List Region) → Tell rs → Tell (regions_after set item rs)
  tell-behind (Text text) rs each = each
  tell-behind (Insert n) rs each =
      all_replaced (λ r. r.applied ≡ has set r.serial) n (Some (region n true)) (λ xs all. (refl, all)) rs each
  tell-behind (Delete n) rs each =
      all_replaced (λ r. r.applied ≡ has set r.serial) n (Some (region n false)) (λ xs all. (refl, all)) rs each
  tell-behind (End n) rs each = all_replaced (λ r. r.applied ≡ has set r.serial) n None (λ xs all. all) rs each

  pub holds-behind : (item : Item) (before : List Item) (rs : List Region) → AreSorted rs → Holds set before rs
      → Holds set (item ∷ before) (regions_after set item rs)
  holds-behind item before rs sorted holds =
      record {
        opens = opens-behind item before rs sorted holds.opens;
        applied = tell-behind item rs holds.applied;
        no_zero = holds.no_zero;
      }
