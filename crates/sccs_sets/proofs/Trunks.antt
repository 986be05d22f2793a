-- Of a trunk the newest delta is got.
use Rattle.std.proofs.Common.{◌≡◌, ℕ, ◌≤◌, max, inl, inr, Bool, true, false, not, cond, ◌&&◌, ◌==◌, List, [], ◌∷◌, map}
use Rattle.std.proofs.Common.{Option, None, Some, refl, ap, subst, ◌∙◌, arith, rules}
use Rattle.std.specs.Prelude.{filter, find, fold, option_map, option_and_then}
use Rattle.std.specs.List.{AllByRecursion, reduce}
use Rattle.sccs_sid.specs.declared.sids.Sid.{Sid}
use Rattle.sccs_history.specs.Applied.{newest}
use Rattle.sccs_history.specs.History.{same_sid}
use Rattle.sccs_history.specs.declared.headers.Record.{Record}
use Rattle.sccs_sets.specs.Retrieved.{retrieved, newest_where, serial_of, trunk_release, trunk_level, trunk_sid}
use Rattle.sccs_sets.specs.Trunks.{Before, IsTrunk}
use Rattle.sccs_base.proofs.Bools.{right_true, equal_self}
use Rattle.std.proofs.lemmas.Bool.{not_from_false, and_from}

-- ---- the greatest of numbers that are not past the first

kept_max : (n m : ℕ) → m ≤ n → max n m ≡ n
kept_max n m low = omega arith

map_cond : {A : Type 0} (f : A → ℕ) (b : Bool) (x : A) (xs : List A) → map f (cond b (x ∷ xs) xs) ≡ cond b
    (f x ∷ map f xs) (map f xs)
map_cond f true x xs = refl
map_cond f false x xs = refl

one_more : (b : Bool) (v n : ℕ) (values : List ℕ) → (b ≡ true → v ≤ n) → fold max n values ≡ n
    → fold max n (cond b (v ∷ values) values) ≡ n
one_more true v n values low rest = ap (λ m. fold max m values) (kept_max n v (low refl)) ∙ rest
one_more false v n values low rest = rest

-- the numbers of those that pass a test are not past n, so n stays the greatest
greatest : (value : Sid → ℕ) (test : Record → Bool) (n : ℕ) (rs : List Record) → AllByRecursion (λ r. test r ≡ true
    → value r.sid ≤ n) rs → fold max n (map (λ r. value r.sid) (filter test rs)) ≡ n
greatest value test n [] low = refl
greatest value test n (r ∷ rs) low =
    ap (λ values. fold max n values) (map_cond (λ (q : Record). value q.sid) (test r) r (filter test rs))
    ∙ one_more (test r) (value r.sid) n (map (λ q. value q.sid) (filter test rs)) low.0 (greatest value test n rs low.1)

-- ---- the tests on SIDs

first_passes : {A : Type 0} (b : Bool) (x : A) (xs : List A) → b ≡ true → cond b (x ∷ xs) xs ≡ x ∷ xs
first_passes true x xs is = refl
first_passes false x xs is = absurd cc

first_found : {A : Type 0} (b : Bool) (x : A) (rest : Option A) → b ≡ true → cond b (Some x) rest ≡ Some x
first_found true x rest is = refl
first_found false x rest is = absurd cc

equal : (n m : ℕ) → n ≡ m → (n == m) ≡ true
equal n m is = subst (λ k. (n == k) ≡ true) is (equal_self n)

same_numbers : (n m : ℕ) → (n == m) ≡ true → n ≡ m
same_numbers n m is = search rules

not_past : (a top : Sid) → Before a top → a.release ≤ top.release
not_past a top (inl less) = omega (arith, less)
not_past a top (inr same) = omega (arith, same.0)

-- a test on the release alone
release_low : (test : Record → Bool) (top : Sid) (rs : List Record) → AllByRecursion (λ s. Before s.sid top) rs
    → AllByRecursion (λ r. test r ≡ true → r.sid.release ≤ top.release) rs
release_low test top [] before = tt
release_low test top (r ∷ rs) before = ((λ is. not_past r.sid top before.0), release_low test top rs before.1)

-- among the SIDs of one release the level is not past
level_below : (a top : Sid) → Before a top → a.release ≡ top.release → a.level ≤ top.level
level_below a top (inl less) same = absurd (omega (arith, less, same))
level_below a top (inr both) same = omega (arith, both.1)

level_low : (top : Sid) (rs : List Record) → AllByRecursion (λ s. Before s.sid top) rs
    → AllByRecursion (λ r. (not r.removed && (r.sid.branch == 0 && r.sid.release == top.release)) ≡ true
    → r.sid.level ≤ top.level) rs
level_low top [] before = tt
level_low top (r ∷ rs) before = (
  (λ is. level_below r.sid top before.0 (same_numbers r.sid.release top.release (right_true (r.sid.branch == 0)
      (r.sid.release == top.release) (right_true (not r.removed) (r.sid.branch == 0 && r.sid.release == top.release)
      is)))),
  level_low top rs before.1,
)

-- ---- the newest of a trunk

branch_none : (sid : Sid) → sid ≡ trunk_sid sid.release sid.level → sid.branch ≡ 0
branch_none sid is = ap (λ (s : Sid). s.branch) is

sequence_none : (sid : Sid) → sid ≡ trunk_sid sid.release sid.level → sid.sequence ≡ 0
sequence_none sid is = ap (λ (s : Sid). s.sequence) is

pub release_of_trunk : (r : Record) (rs : List Record) → IsTrunk (r ∷ rs) → trunk_release (r ∷ rs) None
    ≡ Some r.sid.release
release_of_trunk r rs trunk =
    let test : Record → Bool = λ q. not q.removed && (q.sid.branch == 0 && true) in
    let passes : test r ≡ true = and_from (not r.removed) (r.sid.branch == 0 && true) (not_from_false r.removed trunk.0)
    (and_from (r.sid.branch == 0) true (equal r.sid.branch 0 (branch_none r.sid trunk.1)) refl) in
    ap (λ (qs : List Record). reduce max (map (λ q. q.sid.release) qs))
    (first_passes (test r) r (filter test rs) passes)
    ∙ ap Some (greatest (λ s. s.release) test r.sid.release rs (release_low test r.sid rs trunk.2))

level_of_trunk : (r : Record) (rs : List Record) → IsTrunk (r ∷ rs) → trunk_level (r ∷ rs) r.sid.release
    ≡ Some r.sid.level
level_of_trunk r rs trunk =
    let test : Record → Bool = λ q. not q.removed && (q.sid.branch == 0 && q.sid.release == r.sid.release) in
    let passes : test r ≡ true = and_from (not r.removed) (r.sid.branch == 0 && r.sid.release == r.sid.release)
    (not_from_false r.removed trunk.0) (and_from (r.sid.branch == 0) (r.sid.release == r.sid.release)
    (equal r.sid.branch 0 (branch_none r.sid trunk.1)) (equal_self r.sid.release)) in
    ap (λ (qs : List Record). reduce max (map (λ q. q.sid.level) qs)) (first_passes (test r) r (filter test rs) passes)
    ∙ ap Some (greatest (λ s. s.level) test r.sid.level rs (level_low r.sid rs trunk.2))

first_of : (test : Sid → Bool) (r : Record) (rs : List Record) → r.removed ≡ false → test r.sid ≡ true
    → newest_where test (r ∷ rs) ≡ Some r.serial
first_of test r rs live is =
    ap (λ (o : Option Record). option_map (λ q. q.serial) o) (first_found (not r.removed && test r.sid) r
    (find (λ q. not q.removed && test q.sid) rs) (and_from (not r.removed) (test r.sid)
    (not_from_false r.removed live) is))

is_itself : (sid : Sid) → sid ≡ trunk_sid sid.release sid.level → same_sid sid (trunk_sid sid.release sid.level) ≡ true
is_itself sid is =
    and_from (sid.release == sid.release) (sid.level == sid.level && (sid.branch == 0 && sid.sequence == 0))
    (equal_self sid.release)
    (and_from (sid.level == sid.level) (sid.branch == 0 && sid.sequence == 0) (equal_self sid.level)
    (and_from (sid.branch == 0) (sid.sequence == 0) (equal sid.branch 0 (branch_none sid is))
    (equal sid.sequence 0 (sequence_none sid is))))

pub newest_of_trunk : (r : Record) (rs : List Record) (top : Bool) → IsTrunk (r ∷ rs) → retrieved (r ∷ rs) None top
    ≡ Some (newest (r ∷ rs))
newest_of_trunk r rs false trunk =
    ap (λ (o : Option ℕ). option_and_then (λ release. option_and_then (λ level. serial_of (r ∷ rs)
    (trunk_sid release level)) (trunk_level (r ∷ rs) release)) o) (release_of_trunk r rs trunk)
    ∙ (ap (λ (o : Option ℕ). option_and_then (λ level. serial_of (r ∷ rs) (trunk_sid r.sid.release level)) o)
    (level_of_trunk r rs trunk)
    ∙ first_of (λ s. same_sid s (trunk_sid r.sid.release r.sid.level)) r rs trunk.0 (is_itself r.sid trunk.1))
newest_of_trunk r rs true trunk =
    ap (λ (o : Option ℕ). option_and_then (λ release. newest_where (λ s. s.release == release) (r ∷ rs)) o)
    (release_of_trunk r rs trunk)
    ∙ first_of (λ s. s.release == r.sid.release) r rs trunk.0 (equal_self r.sid.release)
