-- A record that is marked in its place.
use Rattle.std.proofs.Common.{◌≡◌, ◌≢◌, ℕ, zero, suc, ◌<◌, ◌≤◌, ◌==◌, Bool, true, false, ◌||◌, List, [], ◌∷◌, Option}
use Rattle.std.proofs.Common.{None, Some, cond, ◌+◌, refl, sym, subst, ap, ◌∙◌, arith, slice_get, set, position}
use Rattle.std.specs.List.{position_from}
use Rattle.std.proofs.lemmas.Iterator.Adapters.{position_from-zero}
use Rattle.std.proofs.lemmas.List.Quantifiers.{position-Some}
use Rattle.std.proofs.lemmas.Option.{get_or_from_slice_get}
use Rattle.std.proofs.lemmas.Bool.{eq-eqb, eqb-true, ne_eqb}
use Rattle.sccs_history.specs.Applied.{serials_of}
use Rattle.sccs_history.specs.Numbers.{Falls}
use Rattle.sccs_history.specs.declared.headers.Header.{Header}
use Rattle.sccs_history.specs.declared.headers.Record.{Record}
use Rattle.sccs_rmdel.specs.Removed.{as_removed, removed_record, removed_records, without_delta}
use Rattle.sccs_rmdel.proofs.DroppedItems.{by_test}
use Rattle.sccs_base.proofs.Bools.{or_none}

marked : (n : ℕ) (r : Record) (t : Bool) → (r.serial == n) ≡ t
    → removed_record n r ≡ record r { removed = r.removed || t }
marked n r t is = ap (λ u. record r { removed = r.removed || u }) is

or_all : (x : Bool) → (x || true) ≡ true
or_all true = refl
or_all false = refl

other_stays : (n : ℕ) (r : Record) → (r.serial == n) ≡ false → removed_record n r ≡ r
other_stays n r other = marked n r false other ∙ ap (λ u. record r { removed = u }) (or_none r.removed)

own_goes : (n : ℕ) (r : Record) → (r.serial == n) ≡ true → removed_record n r ≡ as_removed r
own_goes n r own = marked n r true own ∙ ap (λ u. record r { removed = u }) (or_all r.removed)

-- where no record has the serial
untouched : (n : ℕ) (records : List Record) (b : ℕ) → b ≤ n → Falls b (serials_of records) → removed_records n records
    ≡ records
untouched n [] b le falls = refl
untouched n (r ∷ rs) b le falls =
    ap (λ x. x ∷ removed_records n rs) (other_stays n r (ne_eqb r.serial n (λ e. omega (arith, falls.0, le))))
    ∙ ap (λ l. r ∷ l) (untouched n rs r.serial (omega (arith, falls.0, le)) falls.1)

below : (records : List Record) (b k : ℕ) (q : Record) → Falls b (serials_of records) → slice_get records k ≡ Some q
    → q.serial < b
below [] b k q falls is = absurd cc
below (r ∷ rs) b zero q falls is = let same : r ≡ q = cc in omega (arith, falls.0, ap (λ (x : Record). x.serial) same)
below (r ∷ rs) b (suc k) q falls is = let low : q.serial < r.serial = below rs r.serial k q falls.1 is in
    omega (arith, low, falls.0)

pub set_removed : (n : ℕ) (records : List Record) (b k : ℕ) (q : Record) → Falls b (serials_of records)
    → slice_get records k ≡ Some q → (q.serial == n) ≡ true → set records k (as_removed q) ≡ removed_records n records
set_removed n [] b k q falls is own = absurd cc
set_removed n (r ∷ rs) b zero q falls is own =
    let same : q ≡ r = cc in
    let here : r.serial ≡ n = ap (λ (x : Record). x.serial) (sym same) ∙ eqb-true q.serial n own in
    ap (λ x. as_removed x ∷ rs) same
    ∙ (ap (λ x. x ∷ rs) (sym (own_goes n r (eq-eqb r.serial n here))) ∙ ap (λ l. removed_record n r ∷ l)
    (sym (untouched n rs r.serial (omega (arith, here)) falls.1)))
set_removed n (r ∷ rs) b (suc k) q falls is own =
    let low : q.serial < r.serial = below rs r.serial k q falls.1 is in
    let here : q.serial ≡ n = eqb-true q.serial n own in
    ap (λ l. r ∷ l) (set_removed n rs r.serial k q falls.1 is own) ∙ ap (λ x. x ∷ removed_records n rs)
    (sym (other_stays n r (ne_eqb r.serial n (λ e. omega (arith, low, here)))))

-- ---- by the place that is found

pub placed : (n : ℕ) (records : List Record) (k : ℕ) (q : Record) → Falls 65536 (serials_of records)
    → position (λ r. r.serial == n) records ≡ Some k → slice_get records k ≡ Some q → set records k (as_removed q)
    ≡ removed_records n records
placed n records k q falls found is =
    set_removed n records 65536 k q falls is (subst (λ (r : Record). (r.serial == n) ≡ true)
    (get_or_from_slice_get records k q q is) (position-Some (λ r. r.serial == n) records k q found).1)

none_from : (n : ℕ) (records : List Record) (i : ℕ) → position_from (λ r. r.serial == n) i records ≡ None
    → removed_records n records ≡ records
none_from n [] i none = refl
none_from n (r ∷ rs) i none =
    by_test (λ t. cond t (Some i) (position_from (λ r. r.serial == n) (i + 1) rs) ≡ None → removed_records n (r ∷ rs)
    ≡ r ∷ rs) (r.serial == n)
    (λ here found. absurd cc)
    (λ away found. ap (λ x. x ∷ removed_records n rs) (other_stays n r away)
    ∙ ap (λ l. r ∷ l) (none_from n rs (i + 1) found)) none

pub nowhere : (n : ℕ) (records : List Record) → position (λ r. r.serial == n) records ≡ None → removed_records n records
    ≡ records
nowhere n records none = none_from n records 0 (sym (position_from-zero (λ r. r.serial == n) records) ∙ none)

abbrev place_of : ℕ → List Record → Option ℕ
place_of n records = position (λ r. r.serial == n) records

abbrev with_records : Header → List Record → Header
with_records header records = record header { records = records }

pub stays_whole : (header : Header) (n : ℕ) (items : List Record) (r : Option ℕ) → items ≡ header.records
    → r ≡ place_of n items → ((k : ℕ) → r ≢ Some k) → header ≡ without_delta n header
stays_whole header n items r same found none =
    ap (with_records header) (sym (nowhere n header.records (sym (found ∙ ap (place_of n) same) ∙ is_none r none)))
  where
    is_none : (r : Option ℕ) → ((k : ℕ) → r ≢ Some k) → r ≡ None
    is_none None none = refl
    is_none (Some k) none = absurd (none k refl)

pub goes_out : (header : Header) (n : ℕ) (items new : List Record) (r : Option ℕ) (k : ℕ) (q removed : Record)
    → Falls 65536 (serials_of header.records) → items ≡ header.records → r ≡ place_of n items → r ≡ Some k
    → slice_get header.records k ≡ Some q → removed ≡ as_removed q → new ≡ set header.records k removed
    → with_records header new ≡ without_delta n header
goes_out header n items new r k q removed falls same found is at copy put =
    ap (with_records header) (put ∙ (ap (set header.records k) copy ∙ placed n header.records k q falls
    (sym (found ∙ ap (place_of n) same) ∙ is) at))
