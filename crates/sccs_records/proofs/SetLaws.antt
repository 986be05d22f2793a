-- The delta sets of a table with one delta more.
use Rattle.std.proofs.Common.{◌≡◌, ℕ, suc, ◌<◌, ◌≤◌, ◌==◌, Bool, true, false, cond, not, ◌&&◌, ◌||◌, List, [], ◌∷◌}
use Rattle.std.proofs.Common.{◌++◌, Option, None, Some, unwrap_or, refl, ap, ◌∙◌, arith, eq-eqb}
use Rattle.std.proofs.lemmas.Bool.{ne_eqb}
use Rattle.sccs_history.specs.Numbers.{Falls, front_if, has}
use Rattle.sccs_history.specs.Applied.{Asked, applied, applied_below, listed, named, newest, path, says, serials_of}
use Rattle.sccs_history.specs.Applied.{version_of}
use Rattle.sccs_history.specs.declared.headers.Record.{Record}
use Rattle.sccs_history.proofs.Falling.{Falls-wider, has-falls}
use Rattle.sccs_history.proofs.Paths.{path_falls}
use Rattle.sccs_records.specs.NewDeltas.{record_of, with_record}
use Rattle.sccs_records.specs.declared.new_deltas.NewDelta.{NewDelta}
use Rattle.sccs_records.proofs.TableLaws.{falls_newest}

abbrev pub asks : ℕ → List ℕ → List ℕ → Asked
asks target include exclude = record { target = target; include = include; exclude = exclude; cutoff = None }

-- ---- an older version

path_other : (records : List Record) (on m : ℕ) (d : NewDelta) → m ≤ newest records → path m (with_record records on d)
    ≡ path m records
path_other records on m d low = ap (λ t. front_if t (suc (newest records)) (path (cond t on m) records))
    (ne_eqb (suc (newest records)) m (λ e. omega (arith, e, low)))

pub older_set : (records : List Record) (on m : ℕ) (d : NewDelta) → Falls 65536 (serials_of records)
    → m ≤ newest records → applied (version_of m) (with_record records on d) ≡ applied (version_of m) records
older_set records on m d falls low =
    let new : Record = record_of (suc (newest records)) on d in
    let away : has (path m records) (suc (newest records)) ≡ false =
    has-falls (path m records) (suc (newest records)) (suc (newest records))
    (path_falls m records (suc (newest records)) (falls_newest records 65536 falls)) (omega arith) in
    ap (λ way. applied_below (version_of m) way [] (new ∷ records)) (path_other records on m d low)
    ∙ ap (λ t. front_if t (suc (newest records)) (applied_below (version_of m) (path m records) (cond t (new ∷ []) [])
    records)) away

-- ---- the version of the new delta

-- what is said of older records, where the new one is applied
module _ (n t t2 : ℕ) (r : Record) (i x i2 x2 : List ℕ) (same : (s : ℕ) (above : List Record)
    → listed i x s (named (r ∷ above) s) ≡ listed i2 x2 s (named above s)) where
  says_same : (way : List ℕ) (above : List Record) (a : Record) → a.serial < n → says (asks t i x) (n ∷ way)
      (r ∷ above) a ≡ says (asks t2 i2 x2) way above a
  says_same way above a low =
      ap (λ o. not a.removed && unwrap_or o ((n == a.serial) || has way a.serial)) (same a.serial above)
      ∙ ap (λ b. not a.removed && unwrap_or (listed i2 x2 a.serial (named above a.serial)) (b || has way a.serial))
      (ne_eqb n a.serial (λ e. omega (arith, e, low)))

  by_test : (b : Bool) (way : List ℕ) (above records : List Record) (a : Record)
      → applied_below (asks t i x) (n ∷ way) (r ∷ (above ++ a ∷ [])) records ≡ applied_below (asks t2 i2 x2) way
      (above ++ a ∷ []) records
      → applied_below (asks t i x) (n ∷ way) (r ∷ above) records ≡ applied_below (asks t2 i2 x2) way above records
      → applied_below (asks t i x) (n ∷ way) (cond b ((r ∷ above) ++ a ∷ []) (r ∷ above)) records ≡ applied_below
      (asks t2 i2 x2) way (cond b (above ++ a ∷ []) above) records
  by_test true way above records a more less = more
  by_test false way above records a more less = less

  pub below_same : (way : List ℕ) (above records : List Record) → Falls n (serials_of records)
      → applied_below (asks t i x) (n ∷ way) (r ∷ above) records ≡ applied_below (asks t2 i2 x2) way above records
  below_same way above [] falls = refl
  below_same way above (a ∷ records) falls =
      let wider : Falls n (serials_of records) = Falls-wider a.serial n (serials_of records) (omega (arith, falls.0))
      falls.1 in
      ap (λ b. front_if b a.serial (applied_below (asks t i x) (n ∷ way) (cond b ((r ∷ above) ++ a ∷ []) (r ∷ above))
      records)) (says_same way above a falls.0)
      ∙ ap (λ l. front_if (says (asks t2 i2 x2) way above a) a.serial l)
      (by_test (says (asks t2 i2 x2) way above a) way above records a (below_same way (above ++ a ∷ []) records wider)
      (below_same way above records wider))

path_new : (records : List Record) (on : ℕ) (d : NewDelta) → path (suc (newest records)) (with_record records on d)
    ≡ suc (newest records) ∷ path on records
path_new records on d = ap (λ t. front_if t (suc (newest records)) (path (cond t on (suc (newest records))) records))
    (eq-eqb (suc (newest records)) (suc (newest records)) refl)

unlisted : (i x : List ℕ) (n : ℕ) (o : Option Bool) → has i n ≡ false → has x n ≡ false → listed i x n o ≡ o
unlisted i x n o in_none out_none = ap (λ t. cond t (Some true) (cond (has x n) (Some false) o)) in_none
    ∙ ap (λ t. cond t (Some false) o) out_none

says_itself : (n on : ℕ) (way i x : List ℕ) (d : NewDelta) → has i n ≡ false → has x n ≡ false
    → says (asks n i x) (n ∷ way) [] (record_of n on d) ≡ true
says_itself n on way i x d in_none out_none =
    ap (λ o. unwrap_or o ((n == n) || has way n)) (unlisted i x n None in_none out_none) ∙ ap (λ t. t || has way n)
    (eq-eqb n n refl)

pub set_on : (records : List Record) (on : ℕ) (d : NewDelta) (i x i2 x2 : List ℕ) → Falls 65536 (serials_of records)
    → has i (suc (newest records)) ≡ false → has x (suc (newest records)) ≡ false
    → ((s : ℕ) (above : List Record) → listed i x s (named (record_of (suc (newest records)) on d ∷ above) s)
    ≡ listed i2 x2 s (named above s))
    → applied (asks (suc (newest records)) i x) (with_record records on d) ≡ suc (newest records) ∷ applied
    (asks on i2 x2) records
set_on records on d i x i2 x2 falls in_none out_none same =
    let n : ℕ = suc (newest records) in
    let new : Record = record_of n on d in
    ap (λ way. applied_below (asks n i x) way [] (new ∷ records)) (path_new records on d)
    ∙ (ap (λ t. front_if t n (applied_below (asks n i x) (n ∷ path on records) (cond t (new ∷ []) []) records))
    (says_itself n on (path on records) i x d in_none out_none)
    ∙ ap (λ l. n ∷ l) (below_same n n on new i x i2 x2 same (path on records) [] records
    (falls_newest records 65536 falls)))

pub own_set : (records : List Record) (on : ℕ) (d : NewDelta) → Falls 65536 (serials_of records)
    → applied (version_of (suc (newest records))) (with_record records on d) ≡ suc (newest records) ∷ applied
    (asks on d.include d.exclude) records
own_set records on d falls = set_on records on d [] [] d.include d.exclude falls refl refl (λ s above. refl)

pub set_beneath : (records : List Record) (on : ℕ) (d : NewDelta) (i x : List ℕ) → Falls 65536 (serials_of records)
    → d.include ≡ [] → d.exclude ≡ [] → has i (suc (newest records)) ≡ false → has x (suc (newest records)) ≡ false
    → applied (asks (suc (newest records)) i x) (with_record records on d) ≡ suc (newest records) ∷ applied
    (asks on i x) records
set_beneath records on d i x falls no_in no_out in_none out_none =
    set_on records on d i x i x falls in_none out_none
    (λ s above. ap (λ l. listed i x s (listed l d.exclude s (named above s))) no_in
    ∙ ap (λ l. listed i x s (listed [] l s (named above s))) no_out)
