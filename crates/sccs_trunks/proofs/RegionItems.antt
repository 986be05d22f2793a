-- The items of lines: what they leave open, their lines, and the rules that they keep. Where a line of a region was the
-- last, its inserter is open by Insert, its deleter by Delete, and nothing else is open.
use Rattle.std.proofs.Common.{◌≡◌, ℕ, zero, suc, ◌≤◌, ◌<◌, ◌⊎◌, ◌==◌, nat_lt, Bool, true, false, cond, not, ◌&&◌, ◌||◌}
use Rattle.std.proofs.Common.{List, [], ◌∷◌, length, refl, sym, ap, ◌∙◌, inl, inr, ⊎_elim, arith, eq-eqb}
use Rattle.std.specs.List.{AllByRecursion}
use Rattle.std.proofs.lemmas.Bool.{eqb-true, lt-ltb}
use Rattle.sccs_history.specs.Numbers.{first, has}
use Rattle.sccs_history.specs.Body.{Mark, Closed, ByInsert, ByDelete, above, deleters, inserter, inserters, is_closed}
use Rattle.sccs_history.specs.Body.{is_delete, is_insert, mark}
use Rattle.sccs_history.specs.declared.headers.Item.{Item}
use Rattle.sccs_history.specs.declared.headers.Item.TheVariants.{Insert, Delete, End}
use Rattle.sccs_history.proofs.Falling.{falling-alike, falling-has}
use Rattle.sccs_history.proofs.OpenMarks.{mark_below}
use Rattle.sccs_trunks.specs.Trunks.{is_zero}

-- how a serial stands in a region
abbrev pub region_mark : ℕ → ℕ → ℕ → Mark
region_mark a d n = cond (a == n) ByInsert (cond (not (is_zero d) && d == n) ByDelete Closed)

-- nothing is open
abbrev pub IsShut : List Item → Type 0
IsShut before = (n : ℕ) → mark n before ≡ Closed

-- the region of an inserter and a deleter, above it where there is one, is open and nothing else
pub record IsRegion (a d : ℕ) (before : List Item) : Type 0 where
  pub some : 0 < a
  pub higher : (d ≡ 0) ⊎ (a < d)
  pub marks : (n : ℕ) → mark n before ≡ region_mark a d n

-- the deleters of a region
abbrev pub those_of : ℕ → List ℕ
those_of zero = []
those_of (suc d) = suc d ∷ []

not_zero : (d : ℕ) → 0 < d → is_zero d ≡ false
not_zero zero lt = absurd (omega arith)
not_zero (suc d) lt = refl

-- the inserter of a region is open below the bound of the items
region_below : (a d : ℕ) (before : List Item) → IsRegion a d before → a < above before
region_below a d before region =
    mark_below a before (ap is_closed (region.marks a)
    ∙ ap (λ t. is_closed (cond t ByInsert (cond (not (is_zero d) && d == a) ByDelete Closed))) (eq-eqb a a refl))

insert_test : (a d n : ℕ) → is_insert (region_mark a d n) ≡ has (a ∷ []) n
insert_test a d n = by_test (a == n) (not (is_zero d) && d == n)
  where
    by_test : (t u : Bool) → is_insert (cond t ByInsert (cond u ByDelete Closed)) ≡ (t || false)
    by_test true u = refl
    by_test false true = refl
    by_test false false = refl

pub inserters_region : (a d : ℕ) (before : List Item) → IsRegion a d before → inserters before ≡ a ∷ []
inserters_region a d before region =
    falling-alike (above before) (λ n. is_insert (mark n before)) (has (a ∷ [])) (λ n lt. ap is_insert (region.marks n)
    ∙ insert_test a d n)
    ∙ falling-has (above before) (a ∷ []) (region_below a d before region, tt)

pub inserter_region : (a d : ℕ) (before : List Item) → IsRegion a d before → inserter before ≡ a
inserter_region a d before region = ap first (inserters_region a d before region)

delete_test : (a d n : ℕ) → (d ≡ 0) ⊎ (a < d) → (is_delete (region_mark a d n) && nat_lt a n) ≡ has (those_of d) n
delete_test a zero n higher = by_test (a == n)
  where
    by_test : (t : Bool) → (is_delete (cond t ByInsert Closed) && nat_lt a n) ≡ false
    by_test true = refl
    by_test false = refl
delete_test a (suc d) n (inl e) = absurd (omega (arith, e))
delete_test a (suc d) n (inr lt) = by_test (a == n) (suc d == n) refl refl
  where
    by_test : (t u : Bool) → (a == n) ≡ t → (suc d == n) ≡ u
        → (is_delete (cond t ByInsert (cond (true && u) ByDelete Closed)) && nat_lt a n) ≡ (u || false)
    by_test true true e f = absurd (omega (arith, eqb-true a n e, eqb-true (suc d) n f))
    by_test true false e f = refl
    by_test false true e f = lt-ltb a n (omega (arith, eqb-true (suc d) n f))
    by_test false false e f = refl

deleter_below : (a d : ℕ) (before : List Item) → IsRegion a (suc d) before → suc d < above before
deleter_below a d before region = mark_below (suc d) before (ap is_closed (region.marks (suc d)) ∙ shut (a == suc d))
  where
    shut : (t : Bool) → is_closed (cond t ByInsert (cond (true && suc d == suc d) ByDelete Closed)) ≡ false
    shut true = refl
    shut false = ap (λ u. is_closed (cond (true && u) ByDelete Closed)) (eq-eqb (suc d) (suc d) refl)

falls_those : (a d : ℕ) (before : List Item) → IsRegion a d before → Rattle.sccs_history.specs.Numbers.Falls
    (above before) (those_of d)
falls_those a zero before region = tt
falls_those a (suc d) before region = (deleter_below a d before region, tt)

pub deleters_region : (a d : ℕ) (before : List Item) → IsRegion a d before → deleters before ≡ those_of d
deleters_region a d before region =
    falling-alike (above before) (λ n. is_delete (mark n before) && nat_lt (inserter before) n) (has (those_of d))
    (λ n lt.
    ap (λ k. is_delete k && nat_lt (inserter before) n) (region.marks n)
    ∙ (ap (λ i. is_delete (region_mark a d n) && nat_lt i n) (inserter_region a d before region)
    ∙ delete_test a d n region.higher))
    ∙ falling-has (above before) (those_of d) (falls_those a d before region)

-- the deleters of a line that has at most one
pub those_first : (ds : List ℕ) → length ds ≤ 1 → AllByRecursion (λ e. 0 < e) ds → those_of (first ds) ≡ ds
those_first [] le each = refl
those_first (zero ∷ []) le each = absurd (omega (arith, each.0))
those_first (suc e ∷ []) le each = refl
those_first (d ∷ e ∷ ds) le each = absurd (omega arith)

-- ---- items that open and close

pub shut_insert : (a : ℕ) (before : List Item) → 0 < a → IsShut before → IsRegion a 0 (Insert a ∷ before)
shut_insert a before some shut = record {
  some = some;
  higher = inl refl;
  marks = λ n. ap (λ k. cond (a == n) ByInsert k) (shut n);
}

pub shut_delete : (a d : ℕ) (before : List Item) → 0 < a → a < d → IsShut before
    → IsRegion a d (Delete d ∷ Insert a ∷ before)
shut_delete a d before some high shut = record {
  some = some;
  higher = inr high;
  marks = λ n. by_test n (d == n) (a == n) refl refl;
}
  where
    by_test : (n : ℕ) (t u : Bool) → (d == n) ≡ t → (a == n) ≡ u → cond t ByDelete (cond u ByInsert (mark n before))
        ≡ cond u ByInsert (cond (not (is_zero d) && t) ByDelete Closed)
    by_test n true true e f = absurd (omega (arith, eqb-true d n e, eqb-true a n f))
    by_test n true false e f = sym (ap (λ z. cond (not z && true) ByDelete Closed) (not_zero d (omega arith)))
    by_test n false true e f = refl
    by_test n false false e f = shut n ∙ sym (ap (λ t. cond t ByDelete Closed) (Rattle.std.proofs.Math.Bool.and-false
        (not (is_zero d))))

pub close_deleter : (a d : ℕ) (before : List Item) → IsRegion a d before → 0 < d → IsRegion a 0 (End d ∷ before)
close_deleter a d before region lt = record {
  some = region.some;
  higher = inl refl;
  marks = λ n. by_test n (d == n) (a == n) refl refl;
}
  where
    apart : (a ≡ d → ⊥)
    apart e = ⊎_elim (λ z. omega (arith, z)) (λ h. omega (arith, h)) region.higher

    by_test : (n : ℕ) (t u : Bool) → (d == n) ≡ t → (a == n) ≡ u → cond t Closed (mark n before)
        ≡ cond u ByInsert Closed
    by_test n true true e f = absurd (apart (eqb-true a n f ∙ sym (eqb-true d n e)))
    by_test n true false e f = refl
    by_test n false u e f = region.marks n
        ∙ (ap (λ k. cond k ByInsert (cond (not (is_zero d) && d == n) ByDelete Closed)) f
        ∙ (ap (λ k. cond u ByInsert (cond (not (is_zero d) && k) ByDelete Closed)) e
        ∙ ap (λ k. cond u ByInsert (cond k ByDelete Closed)) (Rattle.std.proofs.Math.Bool.and-false
        (not (is_zero d)))))

pub close_inserter : (a : ℕ) (before : List Item) → IsRegion a 0 before → IsShut (End a ∷ before)
close_inserter a before region n = by_test (a == n) refl
  where
    by_test : (t : Bool) → (a == n) ≡ t → cond t Closed (mark n before) ≡ Closed
    by_test true e = refl
    by_test false e = region.marks n ∙ ap (λ k. cond k ByInsert Closed) e
