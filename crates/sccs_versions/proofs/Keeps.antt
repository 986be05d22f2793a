-- What the open regions say of a line.
use Rattle.std.proofs.Common.{◌≡◌, ℕ, zero, suc, ◌==◌, ◌<◌, nat_lt, Bool, true, false, cond, not, ◌&&◌, ◌||◌, List, []}
use Rattle.std.proofs.Common.{◌∷◌, refl, sym, ap, ◌∙◌, ⊎_elim, arith, eq-eqb, lt-ltb, le-ltb}
use Rattle.std.specs.List.{AllByRecursion}
use Rattle.std.proofs.lemmas.Bool.{eqb-true, ne_eqb, false≢true, cases_lt}
use Rattle.std.proofs.Math.Bool.{and-false}
use Rattle.sccs_history.specs.Numbers.{front_if, first, has, share, Falls}
use Rattle.sccs_history.specs.Body.{Mark, Closed, ByInsert, ByDelete, is_closed, is_insert, is_delete, mark, above}
use Rattle.sccs_history.specs.Body.{inserters, inserter, deleters, line_at}
use Rattle.sccs_history.specs.Select.{shows}
use Rattle.sccs_history.specs.declared.headers.Item.{Item}
use Rattle.sccs_history.proofs.Falling.{falling-alike, falling-has, Falls-wider}
use Rattle.sccs_history.proofs.OpenMarks.{mark_below}
use Rattle.sccs_versions.specs.Regions.{AreSorted, first_insert, serial_mark, Holds, keeps, region_mark, OpensRegions}
use Rattle.sccs_versions.specs.Regions.{region_serials}
use Rattle.sccs_versions.specs.declared.regions.Region.{Region}
use Rattle.sccs_versions.proofs.Steps.{found_past}

kind_open : (t : Bool) → is_closed (cond t ByInsert ByDelete) ≡ false
kind_open true = refl
kind_open false = refl

-- the open regions are below the bound of the items
falls_above : (before : List Item) (rs : List Region) → AreSorted rs → OpensRegions before rs
    → Falls (above before) (region_serials rs)
falls_above before [] sorted opens = tt
falls_above before (r ∷ rs) sorted opens =
    let stands : region_mark r ≡ mark r.serial before = ap (λ t. cond t (region_mark r) (serial_mark r.serial rs))
    (sym (eq-eqb r.serial r.serial refl)) ∙ opens r.serial in
    (mark_below r.serial before (ap is_closed (sym stands) ∙ kind_open r.inserts), sorted)

-- the serials of the regions by Insert
abbrev inserting : List Region → List ℕ
inserting [] = []
inserting (r ∷ rs) = front_if r.inserts r.serial (inserting rs)

-- those of the regions by Delete before the first by Insert
abbrev deleting : List Region → List ℕ
deleting [] = []
deleting (r ∷ rs) = cond r.inserts [] (r.serial ∷ deleting rs)

first_front : (t : Bool) (n : ℕ) (ns : List ℕ) → cond t n (first ns) ≡ first (front_if t n ns)
first_front true n ns = refl
first_front false n ns = refl

first_inserting : (rs : List Region) → first_insert rs ≡ first (inserting rs)
first_inserting [] = refl
first_inserting (r ∷ rs) = ap (λ n. cond r.inserts r.serial n) (first_inserting rs) ∙ first_front r.inserts r.serial
    (inserting rs)

falls_front : (t : Bool) (b n : ℕ) (ns : List ℕ) → n < b → Falls n ns → Falls b (front_if t n ns)
falls_front true b n ns lt falls = (lt, falls)
falls_front false b n ns lt falls = Falls-wider n b ns (omega arith) falls

falls_inserting : (b : ℕ) (rs : List Region) → Falls b (region_serials rs) → Falls b (inserting rs)
falls_inserting b [] falls = tt
falls_inserting b (r ∷ rs) falls = falls_front r.inserts b r.serial (inserting rs) falls.0
    (falls_inserting r.serial rs falls.1)

insert_or : (s : Bool) (k : Mark) → (s || is_insert k) ≡ is_insert (cond s ByInsert k)
insert_or true k = refl
insert_or false k = refl

insert_past : (s : Bool) (k : Mark) → (s ≡ true → is_insert k ≡ false) → is_insert k ≡ is_insert (cond s ByDelete k)
insert_past true k none = none refl
insert_past false k none = refl

insert_step : (t : Bool) (b n m : ℕ) (rs : List Region) → Falls m (region_serials rs) → has (inserting rs) n ≡ is_insert
    (serial_mark n rs) → has (front_if t m (inserting rs)) n ≡ is_insert (cond (m == n) (cond t ByInsert ByDelete)
    (serial_mark n rs))
insert_step true b n m rs falls ih = ap (λ x. (m == n) || x) ih ∙ insert_or (m == n) (serial_mark n rs)
insert_step false b n m rs falls ih =
    ih ∙ insert_past (m == n) (serial_mark n rs) (λ e. let same : m ≡ n = eqb-true m n e in
    ap is_insert (found_past m n rs falls (omega arith)))

has_inserting : (b n : ℕ) (rs : List Region) → Falls b (region_serials rs) → has (inserting rs) n ≡ is_insert
    (serial_mark n rs)
has_inserting b n [] falls = refl
has_inserting b n (r ∷ rs) falls = insert_step r.inserts b n r.serial rs falls.1 (has_inserting r.serial n rs falls.1)

-- what the regions say of the inserter
pub inserter_regions : (before : List Item) (rs : List Region) → AreSorted rs → OpensRegions before rs
    → first_insert rs ≡ inserter before
inserter_regions before rs sorted opens =
    let falls = falls_above before rs sorted opens in
    let same : inserters before ≡ inserting rs =
    falling-alike (above before) (λ n. is_insert (mark n before)) (has (inserting rs))
    (λ n lt. ap is_insert (sym (opens n)) ∙ sym (has_inserting (above before) n rs falls))
    ∙ falling-has (above before) (inserting rs) (falls_inserting (above before) rs falls) in
    first_inserting rs ∙ ap first (sym same)

first_step : (t : Bool) (b n rest : ℕ) → n < b → 0 < cond t n rest → (0 < rest → rest < n) → cond t n rest < b
first_step true b n rest lt some below = lt
first_step false b n rest lt some below = let low = below some in omega (arith, low)

first_below : (b : ℕ) (rs : List Region) → Falls b (region_serials rs) → 0 < first_insert rs → first_insert rs < b
first_below b [] falls some = absurd (omega arith)
first_below b (r ∷ rs) falls some = first_step r.inserts b r.serial (first_insert rs) falls.0 some
    (first_below r.serial rs falls.1)

falls_cond : (t : Bool) (b n : ℕ) (ns : List ℕ) → n < b → Falls n ns → Falls b (cond t [] (n ∷ ns))
falls_cond true b n ns lt falls = tt
falls_cond false b n ns lt falls = (lt, falls)

falls_deleting : (b : ℕ) (rs : List Region) → Falls b (region_serials rs) → Falls b (deleting rs)
falls_deleting b [] falls = tt
falls_deleting b (r ∷ rs) falls = falls_cond r.inserts b r.serial (deleting rs) falls.0
    (falls_deleting r.serial rs falls.1)

not_deleted : (m n : ℕ) (k : Mark) → (m < n → k ≡ Closed) → false ≡ is_delete (cond (m == n) ByInsert k) && nat_lt m n
not_deleted m n k past =
    ⊎_elim
    (λ lt. let closed : is_delete k ≡ false = ap is_delete (past lt) in
    sym (ap (λ t. is_delete (cond t ByInsert k) && nat_lt m n) (ne_eqb m n (λ e. omega arith))
    ∙ ap (λ t. t && nat_lt m n) closed))
    (λ le. sym (ap (λ t. is_delete (cond (m == n) ByInsert k) && t) (le-ltb m n le)
    ∙ and-false (is_delete (cond (m == n) ByInsert k))))
    (cases_lt m n)

deleted_or : (s : Bool) (k : Mark) (low : Bool) → (s ≡ true → low ≡ true) → (s || (is_delete k && low))
    ≡ (is_delete (cond s ByDelete k) && low)
deleted_or true k low here = sym (here refl)
deleted_or false k low here = refl

delete_step : (t : Bool) (n m : ℕ) (rs : List Region) → Falls m (region_serials rs) → 0 < cond t m (first_insert rs)
    → (0 < first_insert rs → has (deleting rs) n ≡ is_delete (serial_mark n rs) && nat_lt (first_insert rs) n)
    → has (cond t [] (m ∷ deleting rs)) n ≡ is_delete (cond (m == n) (cond t ByInsert ByDelete) (serial_mark n rs))
    && nat_lt (cond t m (first_insert rs)) n
delete_step true n m rs falls some ih = not_deleted m n (serial_mark n rs) (λ lt. found_past m n rs falls (omega arith))
delete_step false n m rs falls some ih =
    ap (λ x. (m == n) || x) (ih some)
    ∙ deleted_or (m == n) (serial_mark n rs) (nat_lt (first_insert rs) n) (λ e. let same : m ≡ n = eqb-true m n e in
    let low = first_below m rs falls some in lt-ltb (first_insert rs) n (omega (arith, low)))

has_deleting : (b n : ℕ) (rs : List Region) → Falls b (region_serials rs) → 0 < first_insert rs
    → has (deleting rs) n ≡ is_delete (serial_mark n rs) && nat_lt (first_insert rs) n
has_deleting b n [] falls some = absurd (omega arith)
has_deleting b n (r ∷ rs) falls some = delete_step r.inserts n r.serial rs falls.1 some
    (has_deleting r.serial n rs falls.1)

-- what they say of the deleters, where a serial is open by Insert
deleters_regions : (before : List Item) (rs : List Region) → AreSorted rs → OpensRegions before rs → 0 < first_insert rs
    → deleters before ≡ deleting rs
deleters_regions before rs sorted opens some =
    let falls = falls_above before rs sorted opens in
    falling-alike (above before) (λ n. is_delete (mark n before) && nat_lt (inserter before) n) (has (deleting rs))
    (λ n lt. ap (λ k. is_delete k && nat_lt (inserter before) n) (sym (opens n))
    ∙ (ap (λ i. is_delete (serial_mark n rs) && nat_lt i n) (sym (inserter_regions before rs sorted opens))
    ∙ sym (has_deleting (above before) n rs falls some)))
    ∙ falling-has (above before) (deleting rs) (falls_deleting (above before) rs falls)

and_true : (a : Bool) → a ≡ a && true
and_true true = refl
and_true false = refl

and_not_or : (a h q : Bool) → (not a && (h && not q)) ≡ (h && not (a || q))
and_not_or true h q = sym (and-false h)
and_not_or false h q = refl

keeps_step : (set : List ℕ) (t a : Bool) (n : ℕ) (rs : List Region) → a ≡ has set n
    → keeps rs ≡ has set (first_insert rs) && not (share (deleting rs) set)
    → cond t a (not a && keeps rs) ≡ has set (cond t n (first_insert rs))
    && not (share (cond t [] (n ∷ deleting rs)) set)
keeps_step set true a n rs tells ih = tells ∙ and_true (has set n)
keeps_step set false a n rs tells ih =
    ap (λ k. not a && k) ih
    ∙ (and_not_or a (has set (first_insert rs)) (share (deleting rs) set)
    ∙ ap (λ k. has set (first_insert rs) && not (k || share (deleting rs) set)) tells)

keeps_is : (set : List ℕ) (rs : List Region) → has set 0 ≡ false → AllByRecursion (λ r. r.applied ≡ has set r.serial) rs
    → keeps rs ≡ has set (first_insert rs) && not (share (deleting rs) set)
keeps_is set [] none tells = ap (λ t. t && true) (sym none)
keeps_is set (r ∷ rs) none tells = keeps_step set r.inserts r.applied r.serial rs tells.0 (keeps_is set rs none tells.1)

and_same : (h x y : Bool) → (h ≡ true → x ≡ y) → (h && x) ≡ (h && y)
and_same true x y same = same refl
and_same false x y same = refl

some_from_has : (set : List ℕ) (n : ℕ) → has set 0 ≡ false → has set n ≡ true → 0 < n
some_from_has set zero none there = absurd (false≢true (sym none ∙ there))
some_from_has set (suc n) none there = omega arith

-- what they say of a line is whether the set shows it
pub shows_regions : (set : List ℕ) (before : List Item) (rs : List Region) (text : List ℕ) → AreSorted rs
    → Holds set before rs → keeps rs ≡ shows set (line_at before text)
shows_regions set before rs text sorted holds =
    keeps_is set rs holds.no_zero holds.applied
    ∙ (and_same (has set (first_insert rs)) (not (share (deleting rs) set)) (not (share (deleters before) set))
    (λ there. ap (λ ds. not (share ds set)) (sym (deleters_regions before rs sorted holds.opens
    (some_from_has set (first_insert rs) holds.no_zero there))))
    ∙ ap (λ i. has set i && not (share (deleters before) set)) (inserter_regions before rs sorted holds.opens))
