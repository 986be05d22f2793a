-- The releases that are passed over, one after the other.
use Rattle.std.proofs.Common.{◌≡◌, ℕ, suc, ◌+◌, ◌-◌, ◌<◌, Bool, true, false, not, ◌||◌, List, [], ◌++◌, length, drop}
use Rattle.std.proofs.Common.{get_or, refl, sym, ap, ◌∙◌, arith, append_assoc}
use Rattle.std.specs.List.{list_any}
use Rattle.std.proofs.lemmas.List.{at_drop_more}
use Rattle.sccs_sid.specs.declared.sids.Sid.{Sid}
use Rattle.sccs_history.specs.Numbers.{front_if}
use Rattle.sccs_history.specs.declared.headers.Record.{Record}
use Rattle.sccs_delta.specs.DeltaStep.{first_in_release, is_used, unused_from}
use Rattle.sccs_base.proofs.Bools.{or_assoc}

front_both : (t : Bool) (x : Sid) (xs ys : List Sid) → front_if t x xs ++ ys ≡ front_if t x (xs ++ ys)
front_both true x xs ys = refl
front_both false x xs ys = refl

-- one release more
pub release_put : (records : List Record) (reserved : List Sid) (release to : ℕ) (sids : List Sid) → release < to
    → (sids ++ front_if (not (is_used records reserved release)) (first_in_release release) []) ++ unused_from records
    reserved (release + 1) (to - (release + 1)) ≡ sids ++ unused_from records reserved release (to - release)
release_put records reserved release to sids low =
    append_assoc sids (front_if (not (is_used records reserved release)) (first_in_release release) [])
    (unused_from records reserved (release + 1) (to - (release + 1)))
    ∙ ap (λ l. sids ++ l)
    (front_both (not (is_used records reserved release)) (first_in_release release) [] (unused_from records reserved
    (release + 1) (to - (release + 1)))
    ∙ (ap (λ n. front_if (not (is_used records reserved release)) (first_in_release release)
    (unused_from records reserved n (to - (release + 1)))) one
    ∙ sym (ap (unused_from records reserved release) left)))
  where
    one : release + 1 ≡ suc release
    one = omega arith

    left : to - release ≡ suc (to - (release + 1))
    left = omega (arith, low)

-- ---- marks

-- one item more is marked
pub marked_on : {A : Type 0} (test : A → Bool) (all : List A) (i : ℕ) (d x : A) (old new first : Bool) → i < length all
    → x ≡ get_or all i d → new ≡ (old || test x) → (old || list_any test (drop i all)) ≡ first
    → (new || list_any test (drop (i + 1) all)) ≡ first
marked_on test all i d x old new first low at new_is before =
    ap (λ t. t || list_any test (drop (i + 1) all)) new_is
    ∙ (sym (or_assoc old (test x) (list_any test (drop (i + 1) all)))
    ∙ (ap (λ y. old || (test y || list_any test (drop (i + 1) all))) at
    ∙ (sym (at_drop_more (λ l. old || list_any test l) all i d low) ∙ before)))
