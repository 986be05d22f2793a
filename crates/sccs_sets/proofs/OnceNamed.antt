-- The serials of several ranges: each once, at its first place.
use Rattle.std.proofs.Common.{◌≡◌, ℕ, ◌==◌, Bool, true, false, not, ◌||◌, List, [], ◌∷◌, ◌++◌, Option, None, Some}
use Rattle.std.proofs.Common.{Result, Ok, fold, filter, refl, sym, ap, ◌∙◌, cond, eq-eqb}
use Rattle.std.specs.Option.{option_or}
use Rattle.std.specs.List.{AllByRecursion, IsDistinct, flat_map}
use Rattle.std.proofs.lemmas.List.{append_assoc, append-nil}
use Rattle.std.proofs.lemmas.List.Sums.{fold-append}
use Rattle.std.proofs.lemmas.List.Folds.{fold-map}
use Rattle.std.proofs.lemmas.Bool.{eqb-true, eqb-false}
use Rattle.sccs_sid.specs.declared.sids.Sid.{Sid}
use Rattle.sccs_sid.specs.declared.sid_lists.Range.{Range}
use Rattle.sccs_history.specs.Numbers.{front_if, has, without}
use Rattle.sccs_history.specs.declared.headers.Record.{Record}
use Rattle.sccs_sets.specs.Naming.{add_new, add_range, range_named, range_fault, named_serials, unless}
use Rattle.sccs_sets.specs.OnceNamed.{range_serials, first_fault, first_places}
use Rattle.sccs_base.proofs.Bools.{or_none, or_assoc, or_true}

eqb_turned : (a b : ℕ) (t : Bool) → (a == b) ≡ t → (b == a) ≡ t
eqb_turned a b true is = eq-eqb b a (sym (eqb-true a b is))
eqb_turned a b false is = not_eq (b == a) refl
  where
    not_eq : (t : Bool) → (b == a) ≡ t → (b == a) ≡ false
    not_eq false same = same
    not_eq true same = absurd (eqb-false a b is (sym (eqb-true b a same)))

-- the numbers that weren't seen
abbrev unseen : List ℕ → List ℕ → List ℕ
unseen seen ns = filter (λ n. not (has seen n)) ns

-- where two filters keep or lose a number alike
same_kept : (m : ℕ) (s t : Bool) (xs ys : List ℕ) → s ≡ t → xs ≡ ys → cond s (m ∷ xs) xs ≡ cond t (m ∷ ys) ys
same_kept m true true xs ys kept same = ap (λ (ns : List ℕ). m ∷ ns) same
same_kept m false false xs ys kept same = same
same_kept m true false xs ys kept same = cc
same_kept m false true xs ys kept same = cc

-- a number that was seen may be left out before
seen_without : (seen : List ℕ) (n : ℕ) (ns : List ℕ) → has seen n ≡ true → unseen seen (without n ns) ≡ unseen seen ns
seen_without seen n [] is = refl
seen_without seen n (m ∷ ms) is = by_test (m == n) refl (seen_without seen n ms is)
  where
    by_test : (t : Bool) → (m == n) ≡ t → unseen seen (without n ms) ≡ unseen seen ms
        → unseen seen (front_if (not t) m (without n ms)) ≡ unseen seen (m ∷ ms)
    by_test true same rest =
        rest ∙ ap (λ (b : Bool). cond (not b) (m ∷ unseen seen ms) (unseen seen ms))
        (sym (ap (has seen) (eqb-true m n same) ∙ is))
    by_test false same rest = same_kept m (not (has seen m)) (not (has seen m)) _ _ refl rest

pub has_push : (seen : List ℕ) (n m : ℕ) → has (seen ++ n ∷ []) m ≡ (has seen m || n == m)
has_push [] n m = or_none (n == m)
has_push (k ∷ seen) n m = ap (λ (b : Bool). k == m || b) (has_push seen n m) ∙ or_assoc (k == m) (has seen m) (n == m)

-- one number seen more
seen_more : (seen : List ℕ) (n : ℕ) (ns : List ℕ) → unseen (seen ++ n ∷ []) ns ≡ unseen seen (without n ns)
seen_more seen n [] = refl
seen_more seen n (m ∷ ms) = by_test (m == n) refl (seen_more seen n ms)
  where
    by_test : (t : Bool) → (m == n) ≡ t → unseen (seen ++ n ∷ []) ms ≡ unseen seen (without n ms)
        → unseen (seen ++ n ∷ []) (m ∷ ms) ≡ unseen seen (front_if (not t) m (without n ms))
    by_test true same rest =
        ap (λ (b : Bool). cond (not b) (m ∷ unseen (seen ++ n ∷ []) ms) (unseen (seen ++ n ∷ []) ms))
        (has_push seen n m ∙ (ap (λ (b : Bool). has seen m || b) (eqb_turned m n true same) ∙ or_true (has seen m)))
        ∙ rest
    by_test false same rest =
        same_kept m (not (has (seen ++ n ∷ []) m)) (not (has seen m)) _ _
        (ap not (has_push seen n m ∙ (ap (λ (b : Bool). has seen m || b) (eqb_turned m n false same)
        ∙ or_none (has seen m)))) rest

-- ---- the serials of ranges are added

added : (ns seen : List ℕ) → fold add_new seen ns ≡ seen ++ unseen seen (first_places ns)
added [] seen = sym (append-nil seen)
added (n ∷ ns) seen = by_test (has seen n) refl (added ns seen) (added ns (seen ++ n ∷ []))
  where
    kept : List ℕ
    kept = without n (first_places ns)

    by_test : (t : Bool) → has seen n ≡ t → fold add_new seen ns ≡ seen ++ unseen seen (first_places ns)
        → fold add_new (seen ++ n ∷ []) ns ≡ (seen ++ n ∷ []) ++ unseen (seen ++ n ∷ []) (first_places ns)
        → fold add_new (cond t seen (seen ++ n ∷ [])) ns ≡ seen ++ cond (not t) (n ∷ unseen seen kept)
        (unseen seen kept)
    by_test true is first second = first ∙ ap (λ (ms : List ℕ). seen ++ ms)
        (sym (seen_without seen n (first_places ns) is))
    by_test false is first second =
        second ∙ (append_assoc seen (n ∷ []) (unseen (seen ++ n ∷ []) (first_places ns))
        ∙ ap (λ (ms : List ℕ). seen ++ (n ∷ ms)) (seen_more seen n (first_places ns)))

all_unseen : (ns : List ℕ) → unseen [] ns ≡ ns
all_unseen [] = refl
all_unseen (n ∷ ns) = ap (λ (ms : List ℕ). n ∷ ms) (all_unseen ns)

range_added : (records : List Record) (seen : List ℕ) (range : Range) → add_range records seen range ≡ fold add_new seen
    (range_serials records range)
range_added records seen range = sym (fold-map add_new (λ q. q.serial) seen (range_named records range))

then_unless : (fault later : Option Sid) (a : Result (List ℕ) Sid) (numbers : List ℕ) → a ≡ unless later (Ok numbers)
    → unless fault a ≡ unless (option_or fault later) (Ok numbers)
then_unless None later a numbers is = is
then_unless (Some sid) later a numbers is = refl

ranges_added : (records : List Record) (ranges : List Range) (seen : List ℕ)
    → named_serials records seen ranges ≡ unless (first_fault records ranges)
    (Ok (fold add_new seen (flat_map (range_serials records) ranges)))
ranges_added records [] seen = refl
ranges_added records (range ∷ ranges) seen =
    then_unless (range_fault records range) (first_fault records ranges)
    (named_serials records (add_range records seen range) ranges) _
    (ranges_added records ranges (add_range records seen range)
    ∙ ap (λ (ns : List ℕ). unless (first_fault records ranges) (Ok ns))
    (ap (λ (ns : List ℕ). fold add_new ns (flat_map (range_serials records) ranges)) (range_added records seen range)
    ∙ sym (fold-append add_new seen (range_serials records range) (flat_map (range_serials records) ranges))))

pub serials_once : (records : List Record) (ranges : List Range)
    → named_serials records [] ranges ≡ unless (first_fault records ranges)
    (Ok (first_places (flat_map (range_serials records) ranges)))
serials_once records ranges =
    ranges_added records ranges []
    ∙ ap (λ (ns : List ℕ). unless (first_fault records ranges) (Ok ns)) (added (flat_map (range_serials records) ranges)
    [] ∙ all_unseen (first_places (flat_map (range_serials records) ranges)))

-- ---- first places

without_all : (P : ℕ → Type 0) (n : ℕ) (ns : List ℕ) → AllByRecursion P ns → AllByRecursion P (without n ns)
without_all P n [] all = tt
without_all P n (m ∷ ms) all = kept (not (m == n)) (without_all P n ms all.1)
  where
    kept : (t : Bool) → AllByRecursion P (without n ms) → AllByRecursion P (front_if t m (without n ms))
    kept true rest = (all.0, rest)
    kept false rest = rest

without_none : (n : ℕ) (ns : List ℕ) → AllByRecursion (λ m. (n == m) ≡ false) (without n ns)
without_none n [] = tt
without_none n (m ∷ ms) = kept (m == n) refl (without_none n ms)
  where
    kept : (t : Bool) → (m == n) ≡ t → AllByRecursion (λ k. (n == k) ≡ false) (without n ms)
        → AllByRecursion (λ k. (n == k) ≡ false) (front_if (not t) m (without n ms))
    kept true same rest = rest
    kept false same rest = (eqb_turned m n false same, rest)

without_distinct : (n : ℕ) (ns : List ℕ) → IsDistinct ◌==◌ ns → IsDistinct ◌==◌ (without n ns)
unfolding IsDistinct
without_distinct n [] distinct = tt
without_distinct n (m ∷ ms) distinct = kept (not (m == n)) (without_distinct n ms distinct.1)
  where
    kept : (t : Bool) → IsDistinct ◌==◌ (without n ms) → IsDistinct ◌==◌ (front_if t m (without n ms))
    kept true rest = (without_all (λ k. (m == k) ≡ false) n ms distinct.0, rest)
    kept false rest = rest

pub places_distinct : (ns : List ℕ) → IsDistinct ◌==◌ (first_places ns)
unfolding IsDistinct
places_distinct [] = tt
places_distinct (n ∷ ns) = (without_none n (first_places ns), without_distinct n (first_places ns) (places_distinct ns))

without_has : (n : ℕ) (ns : List ℕ) (k : ℕ) → (n == k || has (without n ns) k) ≡ (n == k || has ns k)
without_has n [] k = refl
without_has n (m ∷ ms) k = by_test (m == n) refl (without_has n ms k)
  where
    swap : (a b c : Bool) → (a || (b || c)) ≡ (b || (a || c))
    swap true true c = refl
    swap true false c = refl
    swap false b c = refl

    twice : (a b : Bool) → (a || (a || b)) ≡ (a || b)
    twice true b = refl
    twice false b = refl

    by_test : (t : Bool) → (m == n) ≡ t → (n == k || has (without n ms) k) ≡ (n == k || has ms k)
        → (n == k || has (front_if (not t) m (without n ms)) k) ≡ (n == k || (m == k || has ms k))
    by_test true same rest = rest ∙ (sym (twice (n == k) (has ms k)) ∙ ap (λ (l : ℕ). n == k || (l == k || has ms k))
        (sym (eqb-true m n same)))
    by_test false same rest = swap (n == k) (m == k) (has (without n ms) k) ∙ (ap (λ (b : Bool). m == k || b) rest
        ∙ swap (m == k) (n == k) (has ms k))

pub places_all : (ns : List ℕ) (k : ℕ) → has (first_places ns) k ≡ has ns k
places_all [] k = refl
places_all (n ∷ ns) k = without_has n (first_places ns) k ∙ ap (λ (b : Bool). n == k || b) (places_all ns k)
