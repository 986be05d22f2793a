-- The greatest of the numbers of records that pass a test.
use Rattle.std.proofs.Common.{◌≡◌, ◌≢◌, ℕ, ◌<◌, ◌≤◌, max, inl, inr, Bool, true, false, cond, ◌||◌, List, [], ◌∷◌, map}
use Rattle.std.proofs.Common.{Option, None, Some, refl, subst, ap, ◌∙◌, arith}
use Rattle.std.specs.Prelude.{filter, fold}
use Rattle.std.proofs.lemmas.Bool.{cases_eq}
use Rattle.std.specs.List.{AllByRecursion, list_any, reduce}
use Rattle.sccs_history.specs.declared.headers.Record.{Record}

-- the greatest of records that pass
abbrev pub top : (Record → ℕ) → (Record → Bool) → List Record → Option ℕ
top value test records = reduce max (map value (filter test records))

-- tests that agree on each record
pub same_top : (value : Record → ℕ) (p q : Record → Bool) (rs : List Record) → AllByRecursion (λ r. p r ≡ q r) rs
    → filter p rs ≡ filter q rs
same_top value p q [] alike = refl
same_top value p q (r ∷ rs) alike =
    ap (λ t. cond t (r ∷ filter p rs) (filter p rs)) alike.0 ∙ ap (λ l. cond (q r) (r ∷ l) l)
    (same_top value p q rs alike.1)

-- where none passes, none passes a stricter test
pub none_top : (value : Record → ℕ) (p q : Record → Bool) (rs : List Record) → AllByRecursion (λ r. q r ≡ true
    → p r ≡ true) rs → top value p rs ≡ None → top value q rs ≡ None
none_top value p q [] less none = refl
none_top value p q (r ∷ rs) less none = by (p r) (q r) refl refl none (none_top value p q rs less.1)
  where
    by : (a b : Bool) → p r ≡ a → q r ≡ b → reduce max (map value (cond a (r ∷ filter p rs) (filter p rs))) ≡ None
        → (top value p rs ≡ None → top value q rs ≡ None)
        → reduce max (map value (cond b (r ∷ filter q rs) (filter q rs))) ≡ None
    by true b is is2 none rest = cc
    by false true is is2 none rest = let wrong : p r ≡ true = less.0 is2 in cc
    by false false is is2 none rest = rest none

-- ---- the greatest is what all are at most, and one is

max_keeps : (a b t : ℕ) → a ≤ t → b ≤ t → max a b ≤ t
max_keeps a b t low high = omega (arith, low, high)

fold_top : (value : Record → ℕ) (p hit : Record → Bool) (t n : ℕ) (rs : List Record) → n ≤ t
    → AllByRecursion (λ r. p r ≡ true → value r ≤ t) rs
    → ((r : Record) → hit r ≡ true → (p r ≡ true) × (value r ≡ t)) → (n ≢ t → list_any hit rs ≡ true)
    → fold max n (map value (filter p rs)) ≡ t
fold_top value p hit t n [] low all hits some = elim (cases_eq n t) [
  | inl is ↦ is
  | inr other ↦ let wrong : false
      ≡ true = some other in cc
]
fold_top value p hit t n (r ∷ rs) low all hits some = by (p r) (hit r) refl refl
    (λ m under more. fold_top value p hit t m rs under all.1 hits more) some
  where
    by : (a b : Bool) → p r ≡ a → hit r ≡ b → ((m : ℕ) → m ≤ t → (m ≢ t → list_any hit rs ≡ true)
        → fold max m (map value (filter p rs)) ≡ t)
        → (n ≢ t → (b || list_any hit rs) ≡ true) → fold max n (map value (cond a (r ∷ filter p rs) (filter p rs))) ≡ t
    by true true is is2 rest some = let same : value r ≡ t = (hits r is2).1 in
        rest (max n (value r)) (omega (arith, low, same)) (λ other. absurd (other (omega (arith, low, same))))
    by true false is is2 rest some = let under : value r ≤ t = all.0 is in
        rest (max n (value r)) (max_keeps n (value r) t low under)
        (λ other. some (λ e. other (omega (arith, e, under))))
    by false true is is2 rest some = let wrong : p r ≡ true = (hits r is2).0 in cc
    by false false is is2 rest some = rest n low some

pub top_is : (value : Record → ℕ) (p hit : Record → Bool) (t : ℕ) (rs : List Record) → AllByRecursion (λ r. p r ≡ true
    → value r ≤ t) rs
    → ((r : Record) → hit r ≡ true → (p r ≡ true) × (value r ≡ t)) → list_any hit rs ≡ true → top value p rs ≡ Some t
top_is value p hit t [] all hits some = cc
top_is value p hit t (r ∷ rs) all hits some = by (p r) (hit r) refl refl some (top_is value p hit t rs all.1 hits)
  where
    by : (a b : Bool) → p r ≡ a → hit r ≡ b → (b || list_any hit rs) ≡ true → (list_any hit rs ≡ true
        → top value p rs ≡ Some t)
        → reduce max (map value (cond a (r ∷ filter p rs) (filter p rs))) ≡ Some t
    by true true is is2 some rest = let same : value r ≡ t = (hits r is2).1 in
        ap Some (fold_top value p hit t (value r) rs (omega (arith, same)) all.1 hits (λ other. absurd (other same)))
    by true false is is2 some rest = ap Some (fold_top value p hit t (value r) rs (all.0 is) all.1 hits (λ other. some))
    by false true is is2 some rest = let wrong : p r ≡ true = (hits r is2).0 in cc
    by false false is is2 some rest = rest some

-- ---- the greatest is below what all are below

fold_below : (bound n : ℕ) (xs : List ℕ) → n < bound → AllByRecursion (λ x. x < bound) xs → fold max n xs < bound
fold_below bound n [] low all = low
fold_below bound n (x ∷ xs) low all = fold_below bound (max n x) xs (omega (arith, low, all.0)) all.1

reduce_below : (bound t : ℕ) (xs : List ℕ) → AllByRecursion (λ x. x < bound) xs → reduce max xs ≡ Some t → t < bound
reduce_below bound t [] all is = cc
reduce_below bound t (x ∷ xs) all is = let same : fold max x xs ≡ t = cc in subst (λ n. n < bound) same
    (fold_below bound x xs all.0 all.1)

passing_below : (value : Record → ℕ) (p : Record → Bool) (bound : ℕ) (rs : List Record)
    → AllByRecursion (λ r. p r ≡ true → value r < bound) rs → AllByRecursion (λ v. v < bound) (map value (filter p rs))
passing_below value p bound [] all = tt
passing_below value p bound (r ∷ rs) all = by (p r) refl (passing_below value p bound rs all.1)
  where
    by : (t : Bool) → p r ≡ t → AllByRecursion (λ v. v < bound) (map value (filter p rs))
        → AllByRecursion (λ v. v < bound) (map value (cond t (r ∷ filter p rs) (filter p rs)))
    by true is rest = (all.0 is, rest)
    by false is rest = rest

pub top_below : (value : Record → ℕ) (p : Record → Bool) (bound t : ℕ) (rs : List Record)
    → AllByRecursion (λ r. p r ≡ true → value r < bound) rs → top value p rs ≡ Some t → t < bound
top_below value p bound t rs all is = reduce_below bound t (map value (filter p rs))
    (passing_below value p bound rs all) is

-- a fact of every record
pub each : (P : Record → Type 0) (rs : List Record) → ((r : Record) → P r) → AllByRecursion P rs
each P [] one = tt
each P (r ∷ rs) one = (one r, each P rs one)

pub each_from : (P Q : Record → Type 0) (rs : List Record) → ((r : Record) → P r → Q r) → AllByRecursion P rs
    → AllByRecursion Q rs
each_from P Q [] one all = tt
each_from P Q (r ∷ rs) one all = (one r all.0, each_from P Q rs one all.1)

pub none_passes : (p : Record → Bool) (rs : List Record) → list_any p rs ≡ false → AllByRecursion (λ r. p r ≡ false) rs
none_passes p [] none = tt
none_passes p (r ∷ rs) none = by (p r) refl none (none_passes p rs)
  where
    by : (t : Bool) → p r ≡ t → (t || list_any p rs) ≡ false
        → (list_any p rs ≡ false → AllByRecursion (λ r. p r ≡ false) rs) → (p r ≡ false)
        × AllByRecursion (λ r. p r ≡ false) rs
    by true is none rest = cc
    by false is none rest = (is, rest none)
