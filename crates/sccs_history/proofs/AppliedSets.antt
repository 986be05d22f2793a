-- The applied set agrees with the rules at each record, and is the only set that does.
use Rattle.std.proofs.Common.{◌≡◌, ℕ, suc, ◌==◌, ◌<◌, ◌≤◌, nat_lt, Bool, true, false, cond, not, ◌&&◌, ◌||◌, List, []}
use Rattle.std.proofs.Common.{◌∷◌, ◌++◌, refl, sym, subst, ap, ◌∙◌, arith, eq-eqb, append_assoc, filter, ⊎_elim, ℤ}
use Rattle.std.proofs.Common.{int_lt, Option, None, Some, unwrap_or}
use Rattle.std.specs.List.{AllByRecursion}
use Rattle.std.proofs.lemmas.Bool.{ne_eqb, lt-ltb, le-ltb, or_left, or_parts, not-true, and_parts}
use Rattle.std.proofs.lemmas.List.{append-nil}
use Rattle.std.proofs.lemmas.List.Elements.{filter-append}
use Rattle.std.proofs.Math.Bool.{and-false, and-true}
use Rattle.sccs_history.specs.Numbers.{front_if, has, Falls}
use Rattle.sccs_history.specs.Applied.{Asked, path, says, applied_below, applied, above_in, serials_of, live_serials}
use Rattle.sccs_history.specs.Applied.{is_barred, listed, named, IsApplied}
use Rattle.sccs_history.specs.declared.headers.Record.{Record}
use Rattle.sccs_history.proofs.Falling.{Falls-wider, has_front, has_front_self, front_has, has-falls}

pub falls_front : (t : Bool) (n : ℕ) (ns : List ℕ) (b : ℕ) → n < b → Falls n ns → Falls b (front_if t n ns)
falls_front true n ns b lt falls = (lt, falls)
falls_front false n ns b lt falls = Falls-wider n b ns (omega arith) falls

pub applied_falls : (asked : Asked) (way : List ℕ) (above rs : List Record) (b : ℕ) → Falls b (serials_of rs)
    → Falls b (applied_below asked way above rs)
applied_falls asked way above [] b falls = tt
applied_falls asked way above (r ∷ rs) b falls =
    let rest : List ℕ = applied_below asked way (cond (says asked way above r) (above ++ r ∷ []) above) rs in
    falls_front (says asked way above r) r.serial rest b falls.0 (applied_falls asked way (cond (says asked way above r)
    (above ++ r ∷ []) above) rs r.serial falls.1)

-- the records stand above a number
abbrev AllAbove : ℕ → List Record → Type 0
AllAbove n rs = AllByRecursion (λ r. n ≤ r.serial) rs

above_more : (n : ℕ) (done : List Record) (r : Record) → AllAbove n done → n ≤ r.serial → AllAbove n (done ++ r ∷ [])
above_more n [] r above le = (le, tt)
above_more n (a ∷ done) r above le = (above.0, above_more n done r above.1 le)

above_lower : (low high : ℕ) (done : List Record) → low ≤ high → AllAbove high done → AllAbove low done
above_lower low high [] le above = tt
above_lower low high (a ∷ done) le above = (omega (arith, above.0), above_lower low high done le above.1)

-- none of the records is above a number
none_above : (set : ℕ → Bool) (n : ℕ) (rs : List Record) (b : ℕ) → Falls b (serials_of rs) → b ≤ suc n
    → filter (λ a. set a.serial && nat_lt n a.serial) rs ≡ []
none_above set n [] b falls le = refl
none_above set n (r ∷ rs) b falls le =
    ap (λ t. cond (set r.serial && t) (r ∷ filter (λ a. set a.serial && nat_lt n a.serial) rs)
    (filter (λ a. set a.serial && nat_lt n a.serial) rs)) (le-ltb n r.serial (omega (arith, falls.0)))
    ∙ (ap (λ t. cond t (r ∷ filter (λ a. set a.serial && nat_lt n a.serial) rs)
    (filter (λ a. set a.serial && nat_lt n a.serial) rs)) (and-false (set r.serial))
    ∙ none_above set n rs r.serial falls.1 (omega (arith, falls.0)))

-- the records of a set above the first of the rest are those done that are in it
above_in-split : (set : ℕ → Bool) (n : ℕ) (done rest : List Record) (b : ℕ) → AllAbove (suc n) done
    → Falls b (serials_of rest) → b ≤ suc n
    → above_in set n (done ++ rest) ≡ filter (λ a. set a.serial) done
above_in-split set n [] rest b above falls le = none_above set n rest b falls le
above_in-split set n (a ∷ done) rest b above falls le =
    ap (λ t. cond (set a.serial && t) (a ∷ above_in set n (done ++ rest)) (above_in set n (done ++ rest)))
    (lt-ltb n a.serial above.0)
    ∙ (ap (λ t. cond t (a ∷ above_in set n (done ++ rest)) (above_in set n (done ++ rest))) (and-true (set a.serial))
    ∙ ap (λ l. cond (set a.serial) (a ∷ l) l) (above_in-split set n done rest b above.1 falls le))

pub has_head : (t : Bool) (n : ℕ) (tail : List ℕ) → Falls n tail → has (front_if t n tail) n ≡ t
has_head true n tail falls = or_left (n == n) (has tail n) (eq-eqb n n refl)
has_head false n tail falls = has-falls tail n n falls (omega arith)

pub has_other : (t : Bool) (n m : ℕ) (tail : List ℕ) → m < n → has (front_if t n tail) m ≡ has tail m
has_other true n m tail lt = ap (λ b. b || has tail m) (ne_eqb n m (λ e. omega arith))
has_other false n m tail lt = refl

push_if : (t : Bool) (above : List Record) (r : Record) → above ++ cond t (r ∷ []) [] ≡ cond t (above ++ r ∷ []) above
push_if true above r = refl
push_if false above r = append-nil above

-- one record more is done
done_more : (set : ℕ → Bool) (done above : List Record) (r : Record) (t : Bool) → filter (λ a. set a.serial) done
    ≡ above → set r.serial ≡ t
    → filter (λ a. set a.serial) (done ++ r ∷ []) ≡ cond t (above ++ r ∷ []) above
done_more set done above r t kept here =
    filter-append (λ a. set a.serial) done (r ∷ [])
    ∙ (ap (λ l. l ++ cond (set r.serial) (r ∷ []) []) kept ∙ (ap (λ b. above ++ cond b (r ∷ []) []) here
    ∙ push_if t above r))

-- what stands above the first of the rest
above_first : (set : ℕ → Bool) (done above rs all : List Record) (r : Record) (b : ℕ) → done ++ (r ∷ rs) ≡ all
    → AllAbove b done → Falls b (serials_of (r ∷ rs)) → filter (λ a. set a.serial) done ≡ above
    → above_in set r.serial all ≡ above
above_first set done above rs all r b same high falls kept =
    ap (above_in set r.serial) (sym same)
    ∙ (above_in-split set r.serial done (r ∷ rs) (suc r.serial) (above_lower (suc r.serial) b done falls.0 high)
    (omega arith, falls.1) (omega arith) ∙ kept)

agrees_rest : (asked : Asked) (way : List ℕ) (set : ℕ → Bool) (done above rest all : List Record) (b : ℕ)
    → done ++ rest ≡ all → AllAbove b done → Falls b (serials_of rest) → filter (λ a. set a.serial) done ≡ above
    → ((m : ℕ) → m < b → set m ≡ has (applied_below asked way above rest) m)
    → AllByRecursion (λ r. set r.serial ≡ says asked way (above_in set r.serial all) r) rest
agrees_rest asked way set done above [] all b same high falls kept alike = tt
agrees_rest asked way set done above (r ∷ rs) all b same high falls kept alike =
    let t : Bool = says asked way above r in
    let next : List Record = cond t (above ++ r ∷ []) above in
    let tail : List ℕ = applied_below asked way next rs in
    let here : set r.serial ≡ t = alike r.serial falls.0 ∙ has_head t r.serial tail
    (applied_falls asked way next rs r.serial falls.1) in
    let ups : above_in set r.serial all ≡ above = above_first set done above rs all r b same high falls kept in (
      here ∙ ap (λ l. says asked way l r) (sym ups),
      agrees_rest asked way set (done ++ r ∷ []) next rs all r.serial (append_assoc done (r ∷ []) rs ∙ same)
          (above_more r.serial done r (above_lower r.serial b done (omega (arith, falls.0)) high) (omega arith)) falls.1
          (done_more set done above r t kept here) (λ m lt. alike m (omega (arith, falls.0))
          ∙ has_other t r.serial m tail lt),
    )

only_more : (set : ℕ → Bool) (t : Bool) (n : ℕ) (tail : List ℕ) (rs : List Record) (b : ℕ) → b ≤ n
    → Falls b (serials_of rs) → AllByRecursion (λ r. set r.serial ≡ has tail r.serial) rs
    → AllByRecursion (λ r. set r.serial ≡ has (front_if t n tail) r.serial) rs
only_more set t n tail [] b le falls each = tt
only_more set t n tail (r ∷ rs) b le falls each = (
  each.0 ∙ sym (has_other t n r.serial tail (omega (arith, falls.0))),
  only_more set t n tail rs r.serial
      (omega (arith, falls.0)) falls.1 each.1,
)

only_rest : (asked : Asked) (way : List ℕ) (set : ℕ → Bool) (done above rest all : List Record) (b : ℕ)
    → done ++ rest ≡ all → AllAbove b done → Falls b (serials_of rest) → filter (λ a. set a.serial) done ≡ above
    → AllByRecursion (λ r. set r.serial ≡ says asked way (above_in set r.serial all) r) rest
    → AllByRecursion (λ r. set r.serial ≡ has (applied_below asked way above rest) r.serial) rest
only_rest asked way set done above [] all b same high falls kept agrees = tt
only_rest asked way set done above (r ∷ rs) all b same high falls kept agrees =
    let t : Bool = says asked way above r in
    let next : List Record = cond t (above ++ r ∷ []) above in
    let tail : List ℕ = applied_below asked way next rs in
    let ups : above_in set r.serial all ≡ above = above_first set done above rs all r b same high falls kept in
    let here : set r.serial ≡ t = agrees.0 ∙ ap (λ l. says asked way l r) ups in (
      here ∙ sym (has_head t r.serial tail (applied_falls asked way next rs r.serial falls.1)),
      only_more set t r.serial tail rs r.serial (omega arith) falls.1
          (only_rest asked way set (done ++ r ∷ []) next rs all r.serial (append_assoc done (r ∷ []) rs ∙ same)
          (above_more r.serial done r (above_lower r.serial b done (omega (arith, falls.0)) high) (omega arith))
          falls.1
          (done_more set done above r t kept here) agrees.1),
    )

pub applied_agrees : (asked : Asked) (records : List Record) (bound : ℕ) → Falls bound (serials_of records)
    → IsApplied asked records (has (applied asked records))
applied_agrees asked records bound falls =
    agrees_rest asked (path asked.target records) (has (applied asked records)) [] [] records records bound refl tt
    falls refl (λ m lt. refl)

pub applied_only : (asked : Asked) (records : List Record) (bound : ℕ) (set : ℕ → Bool)
    → Falls bound (serials_of records) → IsApplied asked records set
    → AllByRecursion (λ r. set r.serial ≡ has (applied asked records) r.serial) records
applied_only asked records bound set falls agrees =
    only_rest asked (path asked.target records) set [] [] records records bound refl tt falls refl agrees

barred_live : (cutoff : Option ℤ) (r : Record) → not (is_barred cutoff r) ≡ true → not r.removed ≡ true
barred_live None r free = free
barred_live (Some last) r free = ap not (or_parts r.removed (int_lt last r.moment.seconds)
    (not-true (is_barred (Some last) r) free)).0

says_live : (asked : Asked) (way : List ℕ) (above : List Record) (r : Record) → says asked way above r ≡ true
    → not r.removed ≡ true
says_live asked way above r said = barred_live asked.cutoff r (and_parts (not (is_barred asked.cutoff r))
    (unwrap_or (listed asked.include asked.exclude r.serial (named above r.serial)) (has way r.serial)) said).0

-- applied serials are live ones of the table
applied_lives : (asked : Asked) (way : List ℕ) (above rs : List Record) (n : ℕ)
    → has (applied_below asked way above rs) n ≡ true → has (live_serials rs) n ≡ true
applied_lives asked way above [] n there = there
applied_lives asked way above (r ∷ rs) n there =
    let next : List Record = cond (says asked way above r) (above ++ r ∷ []) above in
    ⊎_elim (λ e. subst (λ k. has (live_serials (r ∷ rs)) k ≡ true) e.1 (has_front_self (not r.removed) r.serial
    (live_serials rs) (says_live asked way above r e.0)))
    (λ e. has_front (not r.removed) r.serial (live_serials rs) n (applied_lives asked way next rs n e))
    (front_has (says asked way above r) r.serial (applied_below asked way next rs) n there)

pub applied_live : (asked : Asked) (records : List Record) (n : ℕ) → has (applied asked records) n ≡ true
    → has (live_serials records) n ≡ true
applied_live asked records n there = applied_lives asked (path asked.target records) [] records n there
