-- Deltas put in rising order of their SIDs.
use Rattle.std.proofs.Common.{◌≡◌, ℕ, zero, suc, ◌+◌, ◌<◌, ◌≤◌, nat_lt, Bool, true, false, cond, not, ◌&&◌, List, []}
use Rattle.std.proofs.Common.{◌∷◌, ◌++◌, Option, None, Some, Err, length, get_or, drop, fold, map, slice_get, insert}
use Rattle.std.proofs.Common.{refl, sym, ap, ◌∙◌, arith}
use Rattle.std.specs.List.{position, position_or_len}
use Rattle.std.proofs.lemmas.Bool.{ltb-false, not-true, not-false}
use Rattle.std.proofs.lemmas.List.{drop_more}
use Rattle.std.proofs.lemmas.List.Quantifiers.{position-Some}
use Rattle.std.proofs.lemmas.Option.{slice_get-get_or}
use Rattle.sccs_sid.specs.declared.sids.Sid.{Sid}
use Rattle.sccs_sid.specs.declared.sid_lists.Range.{Range}
use Rattle.sccs_history.specs.declared.headers.Record.{Record}
use Rattle.sccs_sets.specs.Naming.{not_after, in_range, sid_named, put_named, range_fault, add_range, unless}
use Rattle.sccs_sets.specs.Naming.{named_serials}
use Rattle.sccs_sets.specs.Retrieved.{live_where}
use Rattle.sccs_sets.specs.declared.naming.Named.{Named}

-- the delta comes after another
abbrev comes_after : Named → Named → Bool
comes_after q a = not (not_after a.sid q.sid)

put-insert : (q : Named) (xs : List Named) (i : ℕ) → i < length xs → comes_after q (get_or xs i q) ≡ true
    → ((k : ℕ) → k < i → comes_after q (get_or xs k q) ≡ false) → put_named xs q ≡ insert xs i q
put-insert q [] i low here none = absurd (omega arith)
put-insert q (a ∷ rest) zero low here none = ap (λ t. cond t (a ∷ put_named rest q) (q ∷ a ∷ rest))
    (not-true (not_after a.sid q.sid) here)
put-insert q (a ∷ rest) (suc i) low here none =
    ap (λ t. cond t (a ∷ put_named rest q) (q ∷ a ∷ rest)) (not-false (not_after a.sid q.sid) (none 0 (omega arith)))
    ∙ ap (λ l. a ∷ l) (put-insert q rest i (omega arith) here (λ k lt. none (suc k) (omega arith)))

pub put_at : (q : Named) (xs : List Named) (i : ℕ) → position (comes_after q) xs ≡ Some i
    → put_named xs q ≡ insert xs i q
put_at q xs i at = let there = position-Some (comes_after q) xs i q at in put-insert q xs i there.0 there.1 there.2

none_passes : (t : Bool) (n : ℕ) → cond t (Some n) None ≡ None → t ≡ false
none_passes true n e = cc
none_passes false n e = refl

pushed_cons : (q a : Named) (rest over : List Named) (t : Bool) (n : ℕ) → suc (length rest) ≤ cond (not (not t))
    (1 + n) 0 → (length rest ≤ n → over ≡ rest ++ q ∷ []) → cond t (a ∷ over) (q ∷ a ∷ rest) ≡ (a ∷ rest) ++ q ∷ []
pushed_cons q a rest over true n past more = ap (λ l. a ∷ l) (more (omega arith))
pushed_cons q a rest over false n past more = absurd (omega arith)

put-push : (q : Named) (xs : List Named) → length xs ≤ position_or_len (comes_after q) xs
    → put_named xs q ≡ xs ++ q ∷ []
put-push q [] past = refl
put-push q (a ∷ rest) past = pushed_cons q a rest (put_named rest q) (not_after a.sid q.sid)
    (position_or_len (comes_after q) rest) past (put-push q rest)

pub put_end : (q : Named) (xs : List Named) → position (comes_after q) xs ≡ None → put_named xs q ≡ xs ++ q ∷ []
put_end q xs none =
    put-push q xs (ltb-false (position_or_len (comes_after q) xs) (length xs)
    (none_passes (nat_lt (position_or_len (comes_after q) xs) (length xs)) (position_or_len (comes_after q) xs)
    none))

fold_if : (t : Bool) (r : Record) (rest : List Record) (found : List Named)
    → fold put_named found (map sid_named (cond t (r ∷ rest) rest)) ≡ fold put_named
    (cond t (put_named found (sid_named r)) found) (map sid_named rest)
fold_if true r rest found = refl
fold_if false r rest found = refl

-- one record more
pub put_record : (range : Range) (r : Record) (rs : List Record) (found found2 : List Named)
    → found2 ≡ cond (not r.removed && in_range range r.sid) (put_named found (sid_named r)) found
    → fold put_named found2 (map sid_named (live_where (in_range range) rs)) ≡ fold put_named found
    (map sid_named (live_where (in_range range) (r ∷ rs)))
put_record range r rs found found2 is =
    ap (λ l. fold put_named l (map sid_named (live_where (in_range range) rs))) is
    ∙ sym (fold_if (not r.removed && in_range range r.sid) r (live_where (in_range range) rs) found)

-- the item at a place, and the rest
pub drop-at : {A : Type 0} (xs : List A) (i : ℕ) (x : A) → i < length xs → slice_get xs i ≡ Some x
    → drop i xs ≡ x ∷ drop (i + 1) xs
drop-at xs i x low at =
    let same : get_or xs i x ≡ x = cc (slice_get-get_or xs i x low) in drop_more xs i x low
    ∙ ap (λ y. y ∷ drop (i + 1) xs) same

pub none_of : (o : Option Sid) → ((x : Sid) → o ≡ Some x → ⊥) → o ≡ None
none_of None never = refl
none_of (Some x) never = absurd (never x refl)

-- a range at fault ends the list
pub range_stops : (records : List Record) (seen : List ℕ) (range : Range) (ranges : List Range) (sid : Sid)
    → range_fault records range ≡ Some sid → named_serials records seen (range ∷ ranges) ≡ Err sid
range_stops records seen range ranges sid fault =
    ap (λ o. unless o (named_serials records (add_range records seen range) ranges)) fault

-- behind another range the list goes on
pub range_goes : (records : List Record) (seen seen2 : List ℕ) (range : Range) (ranges : List Range)
    → range_fault records range ≡ None → seen2 ≡ add_range records seen range
    → named_serials records seen2 ranges ≡ named_serials records seen (range ∷ ranges)
range_goes records seen seen2 range ranges fault is =
    ap (λ s. named_serials records s ranges) is
    ∙ sym (ap (λ o. unless o (named_serials records (add_range records seen range) ranges)) fault)
