-- What a range names, and in which order.
use Rattle.std.proofs.Common.{◌≡◌, ℕ, ◌≤◌, ◌==◌, nat_lt, nat_le, Bool, true, false, cond, not, ◌&&◌, ◌||◌, List, []}
use Rattle.std.proofs.Common.{◌∷◌, None, Some, option_map, suc, fold, map, find, refl, sym, ap, ◌∙◌, arith, eq-eqb}
use Rattle.std.specs.List.{AllByRecursion}
use Rattle.std.proofs.lemmas.Bool.Decides.{nat_tests}
use Rattle.std.proofs.lemmas.Bool.{and_parts, eqb-true, or_left, cond_both}
use Rattle.sccs_sid.specs.declared.sids.Sid.{Sid}
use Rattle.sccs_sid.specs.declared.sid_lists.Range.{Range}
use Rattle.sccs_history.specs.Numbers.{has, Falls}
use Rattle.sccs_history.specs.Applied.{serials_of}
use Rattle.sccs_history.specs.declared.headers.Record.{Record}
use Rattle.sccs_sets.specs.Naming.{one_line, not_after, in_range, sid_named, put_named, range_named, IsRising}
use Rattle.sccs_sets.specs.Naming.{IsSidBefore}
use Rattle.sccs_sets.specs.Retrieved.{live_where, newest_where}
use Rattle.sccs_sets.specs.declared.naming.Named.{Named}
use Rattle.sccs_base.proofs.Bools.{or_none, or_assoc}

-- the serials of deltas
abbrev numbers : List Named → List ℕ
numbers qs = map (λ q. q.serial) qs

swap_or : (a b c : Bool) → (a || (b || c)) ≡ (b || (a || c))
swap_or true true c = refl
swap_or true false c = refl
swap_or false b c = refl

put_step : (a q : Named) (rest over : List Named) (n : ℕ) (t : Bool)
    → has (numbers over) n ≡ (q.serial == n || has (numbers rest) n)
    → has (numbers (cond t (a ∷ over) (q ∷ a ∷ rest))) n ≡ (q.serial == n || has (numbers (a ∷ rest)) n)
put_step a q rest over n true ih = ap (λ b. a.serial == n || b) ih ∙ swap_or (a.serial == n) (q.serial == n)
    (has (numbers rest) n)
put_step a q rest over n false ih = refl

has-put : (found : List Named) (q : Named) (n : ℕ) → has (numbers (put_named found q)) n
    ≡ (q.serial == n || has (numbers found) n)
has-put [] q n = refl
has-put (a ∷ rest) q n = put_step a q rest (put_named rest q) n (not_after a.sid q.sid) (has-put rest q n)

has-sorted : (found : List Named) (rs : List Record) (n : ℕ) → has (numbers (fold put_named found (map sid_named rs))) n
    ≡ (has (serials_of rs) n || has (numbers found) n)
has-sorted found [] n = refl
has-sorted found (r ∷ rs) n =
    has-sorted (put_named found (sid_named r)) rs n
    ∙ (ap (λ b. has (serials_of rs) n || b) (has-put found (sid_named r) n)
    ∙ (swap_or (has (serials_of rs) n) (r.serial == n) (has (numbers found) n) ∙ or_assoc (r.serial == n)
    (has (serials_of rs) n) (has (numbers found) n)))

pub ranges_named : (records : List Record) (range : Range) (n : ℕ) → has (numbers (range_named records range)) n ≡ has
    (serials_of (live_where (in_range range) records)) n
ranges_named records range n = has-sorted [] (live_where (in_range range) records) n
    ∙ or_none (has (serials_of (live_where (in_range range) records)) n)

-- two trunk SIDs, or two of one branch, are in order one way or the other
trunk_total : (a b : Sid) → (nat_lt a.release b.release || (a.release == b.release && nat_le a.level b.level)) ≡ false
    → (nat_lt b.release a.release || (b.release == a.release && nat_le b.level a.level)) ≡ true
trunk_total a b after = grind (arith, nat_tests)

branch_total : (a b : ℕ) → nat_le a b ≡ false → nat_le b a ≡ true
branch_total a b after = grind (arith, nat_tests)

total : (a b : Sid) (t : Bool) → (a.branch == 0) ≡ t → (b.branch == 0) ≡ t → not_after a b ≡ false
    → not_after b a ≡ true
total a b true one two after =
    ap (λ x. cond x (nat_lt b.release a.release || (b.release == a.release && nat_le b.level a.level))
    (nat_le b.sequence a.sequence)) two
    ∙ trunk_total a b (ap (λ x. cond x (nat_lt a.release b.release || (a.release == b.release
    && nat_le a.level b.level)) (nat_le a.sequence b.sequence)) (sym one) ∙ after)
total a b false one two after =
    ap (λ x. cond x (nat_lt b.release a.release || (b.release == a.release && nat_le b.level a.level))
    (nat_le b.sequence a.sequence)) two
    ∙ branch_total a.sequence b.sequence
    (ap (λ x. cond x (nat_lt a.release b.release || (a.release == b.release && nat_le a.level b.level))
    (nat_le a.sequence b.sequence)) (sym one) ∙ after)

-- all on the trunk, or all off it
abbrev AllOn : Bool → List Named → Type 0
AllOn t qs = AllByRecursion (λ q. (q.sid.branch == 0) ≡ t) qs

-- what stands first behind a put
before_put : (a : Named) (rest : List Named) (q : Named) → not_after a.sid q.sid ≡ true → IsSidBefore a rest
    → IsSidBefore a (put_named rest q)
before_put a [] q le before = le
before_put a (b ∷ rest) q le before =
    cond_both (not_after b.sid q.sid) (b ∷ put_named rest q) (q ∷ b ∷ rest) (λ l. IsSidBefore a l) (λ _. before)
    (λ _. le)

put_rises : (a q : Named) (rest over : List Named) (on t : Bool) → not_after a.sid q.sid ≡ t → (a.sid.branch == 0) ≡ on
    → (q.sid.branch == 0) ≡ on → IsRising (a ∷ rest) → IsRising over → (not_after a.sid q.sid ≡ true
    → IsSidBefore a over)
    → IsRising (cond t (a ∷ over) (q ∷ a ∷ rest))
put_rises a q rest over on true is one two rises over_rises before = (before is, over_rises)
put_rises a q rest over on false is one two rises over_rises before = (total a.sid q.sid on one two is, rises)

rising-put : (on : Bool) (found : List Named) (q : Named) → AllOn on found → (q.sid.branch == 0) ≡ on → IsRising found
    → IsRising (put_named found q)
rising-put on [] q each here rises = (tt, tt)
rising-put on (a ∷ rest) q each here rises =
    put_rises a q rest (put_named rest q) on (not_after a.sid q.sid) refl each.0 here rises
    (rising-put on rest q each.1 here rises.1) (λ le. before_put a rest q le rises.0)

on-put : (on : Bool) (found : List Named) (q : Named) → AllOn on found → (q.sid.branch == 0) ≡ on
    → AllOn on (put_named found q)
on-put on [] q each here = (here, tt)
on-put on (a ∷ rest) q each here =
    cond_both (not_after a.sid q.sid) (a ∷ put_named rest q) (q ∷ a ∷ rest) (λ l. AllOn on l)
    (λ _. (each.0, on-put on rest q each.1 here)) (λ _. (here, each))

rising_sorted : (on : Bool) (found : List Named) (rs : List Record) → AllOn on found
    → AllByRecursion (λ r. (r.sid.branch == 0) ≡ on) rs → IsRising found
    → IsRising (fold put_named found (map sid_named rs))
rising_sorted on found [] each more rises = rises
rising_sorted on found (r ∷ rs) each more rises =
    rising_sorted on (put_named found (sid_named r)) rs (on-put on found (sid_named r) each more.0) more.1
    (rising-put on found (sid_named r) each more.0 rises)

line_on : (a b : Sid) (t : Bool) → (a.branch == 0) ≡ t → cond t (b.branch == 0) (a.release == b.release
    && (a.level == b.level && a.branch == b.branch)) ≡ true → (b.branch == 0) ≡ t
line_on a b true is line = line
line_on a b false is line =
    let parts = and_parts (a.level == b.level) (a.branch == b.branch) (and_parts (a.release == b.release)
    (a.level == b.level && a.branch == b.branch) line).1 in
    ap (λ n. n == 0) (sym (eqb-true a.branch b.branch parts.1)) ∙ is

on_step : (range : Range) (r : Record) (rest : List Record) (t : Bool) → (not r.removed && in_range range r.sid) ≡ t
    → AllByRecursion (λ x. (x.sid.branch == 0) ≡ (range.first.branch == 0)) rest
    → AllByRecursion (λ x. (x.sid.branch == 0) ≡ (range.first.branch == 0)) (cond t (r ∷ rest) rest)
on_step range r rest true is each =
    let line = (and_parts (one_line range.first r.sid) (not_after range.first r.sid && not_after r.sid range.last)
    (and_parts (not r.removed) (in_range range r.sid) is).1).0 in
    (line_on range.first r.sid (range.first.branch == 0) refl line, each)
on_step range r rest false is each = each

on_line : (range : Range) (rs : List Record) → AllByRecursion (λ x. (x.sid.branch == 0) ≡ (range.first.branch == 0))
    (live_where (in_range range) rs)
on_line range [] = tt
on_line range (r ∷ rs) = on_step range r (live_where (in_range range) rs) (not r.removed && in_range range r.sid) refl
    (on_line range rs)

pub ranges_rise : (records : List Record) (range : Range) → IsRising (range_named records range)
ranges_rise records range =
    rising_sorted (range.first.branch == 0) [] (live_where (in_range range) records) tt (on_line range records) tt

below_all : (test : Sid → Bool) (b n : ℕ) (rs : List Record) → b ≤ suc n → Falls b (serials_of rs)
    → AllByRecursion (λ r. r.serial ≤ n) (live_where test rs)
below_all test b n [] le falls = tt
below_all test b n (r ∷ rs) le falls =
    below_step (not r.removed && test r.sid) (below_all test r.serial n rs (omega (arith, falls.0)) falls.1)
  where
    below_step : (t : Bool) → AllByRecursion (λ x. x.serial ≤ n) (live_where test rs)
        → AllByRecursion (λ x. x.serial ≤ n) (cond t (r ∷ live_where test rs) (live_where test rs))
    below_step true each = (omega (arith, falls.0), each)
    below_step false each = each

some_step : (test : Sid → Bool) (n : ℕ) (r : Record) (rs : List Record) (t : Bool) → (not r.removed && test r.sid) ≡ t
    → Falls r.serial (serials_of rs)
    → (newest_where test rs ≡ Some n → AllByRecursion (λ x. x.serial ≤ n) (live_where test rs))
    → option_map (λ (a : Record). a.serial) (cond t (Some r) (find (λ a. not a.removed && test a.sid) rs)) ≡ Some n
    → AllByRecursion (λ x. x.serial ≤ n) (cond t (r ∷ live_where test rs) (live_where test rs))
some_step test n r rs true is falls rest found =
    let same : r.serial ≡ n = cc in (omega arith, below_all test r.serial n rs (omega arith) falls)
some_step test n r rs false is falls rest found = rest found

pub newest_greatest : (test : Sid → Bool) (records : List Record) (n b : ℕ) → Falls b (serials_of records)
    → newest_where test records ≡ Some n → AllByRecursion (λ r. r.serial ≤ n) (live_where test records)
newest_greatest test [] n b falls found = tt
newest_greatest test (r ∷ rs) n b falls found =
    some_step test n r rs (not r.removed && test r.sid) refl falls.1 (newest_greatest test rs n r.serial falls.1) found

one_step : (test : Sid → Bool) (n : ℕ) (r : Record) (rs : List Record) (t : Bool) → (newest_where test rs ≡ Some n
    → has (serials_of (live_where test rs)) n ≡ true)
    → option_map (λ (a : Record). a.serial) (cond t (Some r) (find (λ a. not a.removed && test a.sid) rs)) ≡ Some n
    → has (serials_of (cond t (r ∷ live_where test rs) (live_where test rs))) n ≡ true
one_step test n r rs true rest found = let same : r.serial ≡ n = cc in
    or_left (r.serial == n) (has (serials_of (live_where test rs)) n) (eq-eqb r.serial n same)
one_step test n r rs false rest found = rest found

pub newest_one : (test : Sid → Bool) (records : List Record) (n : ℕ) → newest_where test records ≡ Some n
    → has (serials_of (live_where test records)) n ≡ true
newest_one test [] n found = cc
newest_one test (r ∷ rs) n found = one_step test n r rs (not r.removed && test r.sid) (newest_one test rs n) found

none_step : (test : Sid → Bool) (r : Record) (rs : List Record) (t : Bool) → (not r.removed && test r.sid) ≡ t
    → (newest_where test rs ≡ None → AllByRecursion (λ x. (not x.removed && test x.sid) ≡ false) rs)
    → option_map (λ (a : Record). a.serial) (cond t (Some r) (find (λ a. not a.removed && test a.sid) rs)) ≡ None
    → AllByRecursion (λ x. (not x.removed && test x.sid) ≡ false) (r ∷ rs)
none_step test r rs true is rest found = cc
none_step test r rs false is rest found = (is, rest found)

pub newest_none : (test : Sid → Bool) (records : List Record) → newest_where test records ≡ None
    → AllByRecursion (λ r. (not r.removed && test r.sid) ≡ false) records
newest_none test [] found = tt
newest_none test (r ∷ rs) found = none_step test r rs (not r.removed && test r.sid) refl (newest_none test rs) found
