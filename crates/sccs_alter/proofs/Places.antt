-- A record that is changed in its place.
use Rattle.std.proofs.Common.{◌≡◌, ◌≢◌, ℕ, zero, suc, ◌<◌, ◌≤◌, ◌==◌, Bool, true, false, List, [], ◌∷◌, Option, None}
use Rattle.std.proofs.Common.{Some, cond, ◌+◌, refl, sym, subst, ap, ◌∙◌, arith, slice_get, set, position}
use Rattle.std.specs.List.{position_from}
use Rattle.std.proofs.lemmas.Iterator.Adapters.{position_from-zero}
use Rattle.std.proofs.lemmas.List.Quantifiers.{position-Some}
use Rattle.std.proofs.lemmas.Option.{get_or_from_slice_get}
use Rattle.std.proofs.lemmas.Bool.{eq-eqb, eqb-true, ne_eqb}
use Rattle.sccs_sid.specs.declared.moments.Stamp.{Stamp}
use Rattle.sccs_history.specs.Applied.{serials_of}
use Rattle.sccs_history.specs.Numbers.{Falls}
use Rattle.sccs_history.specs.declared.headers.Header.{Header}
use Rattle.sccs_history.specs.declared.headers.Record.{Record}
use Rattle.sccs_alter.specs.Changes.{before_old, changed_delta, changed_mrs, changed_record, changed_records, new_lines}
use Rattle.sccs_alter.specs.Changes.{with_changes}
use Rattle.sccs_alter.specs.declared.changes.TextChanges.{TextChanges}

module _ (changes : TextChanges) (stamp : Stamp) (n : ℕ) where
  by_test : (r : Record) (t : Bool) → (r.serial == n) ≡ t
      → changed_record changes stamp n r ≡ record r {
        mrs = cond t (changed_mrs changes.mrs r.mrs) r.mrs;
        comments =
            cond t (before_old stamp (new_lines changes r) r.comments) r.comments;
      }
  by_test r t is = ap (λ u. record r {
    mrs = cond u (changed_mrs changes.mrs r.mrs) r.mrs;
    comments =
        cond u (before_old stamp (new_lines changes r) r.comments) r.comments;
  }) is

  other_stays : (r : Record) → (r.serial == n) ≡ false → changed_record changes stamp n r ≡ r
  other_stays r other = by_test r false other

  own_changes : (r : Record) → (r.serial == n) ≡ true → changed_record changes stamp n r ≡ changed_delta changes stamp r
  own_changes r own = by_test r true own

  -- where no record has the serial
  untouched : (records : List Record) (b : ℕ) → b ≤ n → Falls b (serials_of records)
      → changed_records changes stamp n records ≡ records
  untouched [] b le falls = refl
  untouched (r ∷ rs) b le falls =
      ap (λ x. x ∷ changed_records changes stamp n rs)
      (other_stays r (ne_eqb r.serial n (λ e. omega (arith, falls.0, le))))
      ∙ ap (λ l. r ∷ l) (untouched rs r.serial (omega (arith, falls.0, le)) falls.1)

  below : (records : List Record) (b k : ℕ) (q : Record) → Falls b (serials_of records) → slice_get records k ≡ Some q
      → q.serial < b
  below [] b k q falls is = absurd cc
  below (r ∷ rs) b zero q falls is = let same : r ≡ q = cc in omega (arith, falls.0, ap (λ (x : Record). x.serial) same)
  below (r ∷ rs) b (suc k) q falls is = let low : q.serial < r.serial = below rs r.serial k q falls.1 is in
      omega (arith, low, falls.0)

  set_changed : (records : List Record) (b k : ℕ) (q : Record) → Falls b (serials_of records)
      → slice_get records k ≡ Some q → (q.serial == n) ≡ true → set records k (changed_delta changes stamp q)
      ≡ changed_records changes stamp n records
  set_changed [] b k q falls is own = absurd cc
  set_changed (r ∷ rs) b zero q falls is own =
      let same : q ≡ r = cc in
      let here : r.serial ≡ n = ap (λ (x : Record). x.serial) (sym same) ∙ eqb-true q.serial n own in
      ap (λ x. changed_delta changes stamp x ∷ rs) same
      ∙ (ap (λ x. x ∷ rs) (sym (own_changes r (eq-eqb r.serial n here)))
      ∙ ap (λ l. changed_record changes stamp n r ∷ l) (sym (untouched rs r.serial (omega (arith, here)) falls.1)))
  set_changed (r ∷ rs) b (suc k) q falls is own =
      let low : q.serial < r.serial = below rs r.serial k q falls.1 is in
      let here : q.serial ≡ n = eqb-true q.serial n own in
      ap (λ l. r ∷ l) (set_changed rs r.serial k q falls.1 is own) ∙ ap (λ x. x ∷ changed_records changes stamp n rs)
      (sym (other_stays r (ne_eqb r.serial n (λ e. omega (arith, low, here)))))

  -- ---- by the place that is found

  placed : (records : List Record) (k : ℕ) (q : Record) → Falls 65536 (serials_of records)
      → position (λ r. r.serial == n) records ≡ Some k → slice_get records k ≡ Some q
      → set records k (changed_delta changes stamp q) ≡ changed_records changes stamp n records
  placed records k q falls found is =
      set_changed records 65536 k q falls is (subst (λ (r : Record). (r.serial == n) ≡ true)
      (get_or_from_slice_get records k q q is) (position-Some (λ r. r.serial == n) records k q found).1)

  by_first : (P : Bool → Type 0) (t : Bool) → (t ≡ true → P true) → (t ≡ false → P false) → P t
  by_first P true holds fails = holds refl
  by_first P false holds fails = fails refl

  none_from : (records : List Record) (i : ℕ) → position_from (λ r. r.serial == n) i records ≡ None
      → changed_records changes stamp n records ≡ records
  none_from [] i none = refl
  none_from (r ∷ rs) i none =
      by_first (λ t. cond t (Some i) (position_from (λ r. r.serial == n) (i + 1) rs) ≡ None
      → changed_records changes stamp n (r ∷ rs) ≡ r ∷ rs) (r.serial == n)
      (λ here found. absurd cc)
      (λ away found. ap (λ x. x ∷ changed_records changes stamp n rs) (other_stays r away)
      ∙ ap (λ l. r ∷ l) (none_from rs (i + 1) found)) none

  nowhere : (records : List Record) → position (λ r. r.serial == n) records ≡ None
      → changed_records changes stamp n records ≡ records
  nowhere records none = none_from records 0 (sym (position_from-zero (λ r. r.serial == n) records) ∙ none)

abbrev place_of : ℕ → List Record → Option ℕ
place_of n records = position (λ r. r.serial == n) records

abbrev with_records : Header → List Record → Header
with_records header records = record header { records = records }

pub stays_whole : (changes : TextChanges) (stamp : Stamp) (header : Header) (n : ℕ) (items : List Record) (r : Option ℕ)
    → items ≡ header.records → r ≡ place_of n items → ((k : ℕ) → r ≢ Some k)
    → header ≡ with_changes changes stamp n header
stays_whole changes stamp header n items r same found none =
    ap (with_records header) (sym (nowhere changes stamp n header.records (sym (found ∙ ap (place_of n) same)
    ∙ is_none r none)))
  where
    is_none : (r : Option ℕ) → ((k : ℕ) → r ≢ Some k) → r ≡ None
    is_none None none = refl
    is_none (Some k) none = absurd (none k refl)

pub comes_in : (changes : TextChanges) (stamp : Stamp) (header : Header) (n : ℕ) (items new : List Record)
    (r : Option ℕ) (k : ℕ) (q changed : Record) → Falls 65536 (serials_of header.records) → items ≡ header.records
    → r ≡ place_of n items → r ≡ Some k
    → slice_get header.records k ≡ Some q → changed ≡ changed_delta changes stamp q → new ≡ set header.records k changed
    → with_records header new ≡ with_changes changes stamp n header
comes_in changes stamp header n items new r k q changed falls same found is at copy put =
    ap (with_records header) (put ∙ (ap (set header.records k) copy ∙ placed changes stamp n header.records k q falls
    (sym (found ∙ ap (place_of n) same) ∙ is) at))
