-- The SID that is made is neither live nor reserved.
use Rattle.std.proofs.Common.{◌≡◌, ℕ, ◌+◌, ◌<◌, ◌≤◌, ◌==◌, nat_lt, nat_le, max, Bool, true, false, cond, not, ◌&&◌}
use Rattle.std.proofs.Common.{◌||◌, List, [], ◌∷◌, map, Option, None, Some, refl, sym, ap, subst, ◌∙◌, arith, rules}
use Rattle.std.specs.Prelude.{filter, fold, option_map, unwrap_or}
use Rattle.std.specs.List.{AllByRecursion, list_any, reduce}
use Rattle.std.proofs.lemmas.Bool.{and_parts, eqb-true, ltb-true, true≢false, and_from, or_from, or_parts}
use Rattle.sccs_sid.specs.declared.sids.Sid.{Sid}
use Rattle.sccs_sid.specs.declared.sids.Spec.{Spec}
use Rattle.sccs_sid.specs.declared.sids.Spec.TheVariants.{Release, Branch, Full}
use Rattle.sccs_history.specs.History.{same_sid}
use Rattle.sccs_history.specs.declared.headers.Record.{Record}
use Rattle.sccs_sets.specs.Retrieved.{live_where, trunk_sid, branch_sid}
use Rattle.sccs_sets.specs.Made.{is_taken, comes_after, is_beside, live_branch, reserved_branch, taken_branch, next}
use Rattle.sccs_sets.specs.Made.{next_level, next_on_trunk, next_on_line, on_new_branch, made_on}
use Rattle.sccs_base.proofs.Bools.{equal_self}
use Rattle.sccs_sid.proofs.FourNumbers.{of_four}

-- ---- tests

-- what passes one test passes the other
any_less : {A : Type 0} (f g : A → Bool) (xs : List A) → ((x : A) → g x ≡ true → f x ≡ true) → list_any f xs ≡ false
    → list_any g xs ≡ false
any_less f g [] more none = refl
any_less f g (x ∷ xs) more none = by (f x) (g x) refl refl (any_less f g xs more)
  where
    by : (a b : Bool) → f x ≡ a → g x ≡ b → (list_any f xs ≡ false → list_any g xs ≡ false)
        → (g x || list_any g xs) ≡ false
    by true b here there rest = absurd (true≢false (rw here at none))
    by false true here there rest = absurd (true≢false (sym (more x there) ∙ here))
    by false false here there rest = rw there (rest (rw here at none))

pub none_any : {A : Type 0} (f : A → Bool) (xs : List A) → AllByRecursion (λ x. f x ≡ true → ⊥) xs
    → list_any f xs ≡ false
none_any f [] are = refl
none_any f (x ∷ xs) are = by (f x) refl (none_any f xs are.1)
  where
    by : (a : Bool) → f x ≡ a → list_any f xs ≡ false → (f x || list_any f xs) ≡ false
    by true here rest = absurd (are.0 here)
    by false here rest = rw here rest

-- some SID that passes is one that is there
taken_less : (records : List Record) (reserved : List Sid) (f g : Sid → Bool) → ((s : Sid) → g s ≡ true → f s ≡ true)
    → is_taken records reserved f ≡ false → is_taken records reserved g ≡ false
taken_less records reserved f g more none =
    let parts = or_parts (list_any (λ r. not r.removed && f r.sid) records) (list_any f reserved) none in
    or_from (list_any (λ r. not r.removed && g r.sid) records) (list_any g reserved)
    (any_less (λ (r : Record). not r.removed && f r.sid) (λ (r : Record). not r.removed && g r.sid) records
    (λ r. live r.removed (f r.sid) (g r.sid) (more r.sid)) parts.0)
    (any_less f g reserved more parts.1)
  where
    live : (removed a b : Bool) → (b ≡ true → a ≡ true) → (not removed && b) ≡ true → (not removed && a) ≡ true
    live true a b more is = is
    live false a b more is = more is

-- ---- SIDs that are the same

pub same_is : (a b : Sid) → same_sid a b ≡ true → a ≡ b
same_is a b is =
    let release = and_parts (a.release == b.release) (a.level == b.level
    && (a.branch == b.branch && a.sequence == b.sequence)) is in
    let level = and_parts (a.level == b.level) (a.branch == b.branch && a.sequence == b.sequence) release.1 in
    let last = and_parts (a.branch == b.branch) (a.sequence == b.sequence) level.1 in
    ap (λ r. of_four r a.level a.branch a.sequence) (eqb-true a.release b.release release.0)
    ∙ (ap (λ l. of_four b.release l a.branch a.sequence) (eqb-true a.level b.level level.0)
    ∙ (ap (λ n. of_four b.release b.level n a.sequence) (eqb-true a.branch b.branch last.0)
    ∙ ap (of_four b.release b.level b.branch) (eqb-true a.sequence b.sequence last.1)))

-- what comes after a SID that none comes after isn't taken
after_free : (records : List Record) (reserved : List Sid) (got sid : Sid) → is_taken records reserved (comes_after got)
    ≡ false → comes_after got sid ≡ true
    → is_taken records reserved (λ s. same_sid s sid) ≡ false
after_free records reserved got sid none after =
    taken_less records reserved (comes_after got) (λ s. same_sid s sid) (λ s same. ap (comes_after got)
    (same_is s sid same) ∙ after) none

-- ---- the next one on a line comes after it

not_less : (n : ℕ) → nat_lt n n ≡ false
not_less n = search rules

next_over : (n : ℕ) → nat_le (n + 1) n ≡ false
next_over n = search (rules, arith)

higher_after : (got : Sid) (release : ℕ) → got.branch == 0 ≡ true → nat_lt got.release release ≡ true
    → comes_after got (trunk_sid release 1) ≡ true
higher_after got release trunk higher =
    let low : nat_lt release got.release ≡ false = not_lt release got.release (ltb-true got.release release higher) in
    let other : (release == got.release) ≡ false = not_eq release got.release (ltb-true got.release release higher) in
    rw (trunk, low, other) refl
  where
    not_lt : (a b : ℕ) → b < a → nat_lt a b ≡ false
    not_lt a b less = search (rules, arith)

    not_eq : (a b : ℕ) → b < a → (a == b) ≡ false
    not_eq a b less = search (rules, arith)

level_after : (got : Sid) → got.branch == 0 ≡ true → comes_after got (trunk_sid got.release (got.level + 1)) ≡ true
level_after got trunk = rw (trunk, not_less got.release, equal_self got.release, next_over got.level) refl

sequence_after : (got : Sid) → got.branch == 0 ≡ false → comes_after got (branch_sid got.release got.level got.branch
    (got.sequence + 1)) ≡ true
sequence_after got branch =
    rw (branch, equal_self got.release, equal_self got.level, equal_self got.branch, next_over got.sequence) refl

next_is : (n m : ℕ) → next n ≡ Some m → m ≡ n + 1
next_is n m is = by (nat_lt n 9999) refl is
  where
    by : (t : Bool) → nat_lt n 9999 ≡ t → cond t (Some (n + 1)) None ≡ Some m → m ≡ n + 1
    by true low is = cc
    by false low is = cc

mapped_is : (f : ℕ → Sid) (o : Option ℕ) (sid : Sid) → option_map f o ≡ Some sid → (n : ℕ) × (o ≡ Some n) × (f n ≡ sid)
mapped_is f None sid is = cc
mapped_is f (Some n) sid is = (n, refl, cc)

level_made : (got sid : Sid) → got.branch == 0 ≡ true → next_level got ≡ Some sid → comes_after got sid ≡ true
level_made got sid trunk is =
    let (n, found, same) = mapped_is (λ level. trunk_sid got.release level) (next got.level) sid is in
    subst (λ s. comes_after got s ≡ true) (ap (trunk_sid got.release) (sym (next_is got.level n found)) ∙ same)
    (level_after got trunk)

trunk_made : (got sid : Sid) (spec : Option Spec) → got.branch == 0 ≡ true → next_on_trunk got spec ≡ Some sid
    → comes_after got sid ≡ true
trunk_made got sid None trunk is = level_made got sid trunk is
trunk_made got sid (Some (Branch r l b)) trunk is = level_made got sid trunk is
trunk_made got sid (Some (Full s)) trunk is = level_made got sid trunk is
trunk_made got sid (Some (Release release)) trunk is = by (nat_lt got.release release) refl is
  where
    by : (t : Bool) → nat_lt got.release release ≡ t → cond t (Some (trunk_sid release 1)) (next_level got) ≡ Some sid
        → comes_after got sid ≡ true
    by true higher is = let same : trunk_sid release 1 ≡ sid = cc in subst (λ s. comes_after got s ≡ true) same
        (higher_after got release trunk higher)
    by false higher is = level_made got sid trunk is

line_made : (got sid : Sid) (spec : Option Spec) → next_on_line got spec ≡ Some sid → comes_after got sid ≡ true
line_made got sid spec is = by (got.branch == 0) refl is
  where
    by : (t : Bool) → got.branch == 0 ≡ t → cond t (next_on_trunk got spec)
        (option_map (λ sequence. branch_sid got.release got.level got.branch sequence) (next got.sequence)) ≡ Some sid
        → comes_after got sid ≡ true
    by true trunk is = trunk_made got sid spec trunk is
    by false branch is =
        let (n, found, same) = mapped_is (λ sequence. branch_sid got.release got.level got.branch sequence)
        (next got.sequence) sid is in
        subst (λ s. comes_after got s ≡ true) (ap (branch_sid got.release got.level got.branch)
        (sym (next_is got.sequence n found)) ∙ same) (sequence_after got branch)

-- ---- a new branch

start_below : (n : ℕ) (xs : List ℕ) → n ≤ fold max n xs
start_below n [] = omega arith
start_below n (x ∷ xs) = let rest = start_below (max n x) xs in omega (arith, rest)

fold_above : (n : ℕ) (xs : List ℕ) → AllByRecursion (λ x. x ≤ fold max n xs) xs
fold_above n [] = tt
fold_above n (x ∷ xs) = ((let rest = start_below (max n x) xs in omega (arith, rest)), fold_above (max n x) xs)

pub greatest_above : (xs : List ℕ) → AllByRecursion (λ x. x ≤ unwrap_or (reduce max xs) 0) xs
greatest_above [] = tt
greatest_above (x ∷ xs) = (start_below x xs, fold_above x xs)

pub passing_below : {A : Type 0} (value : A → ℕ) (test : A → Bool) (top : ℕ) (xs : List A)
    → AllByRecursion (λ v. v ≤ top) (map value (filter test xs)) → AllByRecursion (λ x. test x ≡ true
    → value x ≤ top) xs
passing_below value test top [] are = tt
passing_below value test top (x ∷ xs) are = by (test x) refl are (passing_below value test top xs)
  where
    by : (t : Bool) → test x ≡ t → AllByRecursion (λ v. v ≤ top)
        (map value (cond t (x ∷ filter test xs) (filter test xs)))
        → (AllByRecursion (λ v. v ≤ top) (map value (filter test xs)) → AllByRecursion (λ y. test y ≡ true
        → value y ≤ top) xs)
        → (test x ≡ true → value x ≤ top) × AllByRecursion (λ y. test y ≡ true → value y ≤ top) xs
    by true here low rest = ((λ _. low.0), rest low.1)
    by false here low rest = ((λ there. absurd (true≢false (sym there ∙ here))), rest low)

each_fails : {A : Type 0} (P : A → Type 0) (f : A → Bool) (xs : List A) → ((x : A) → P x → f x ≡ true → ⊥)
    → AllByRecursion P xs → AllByRecursion (λ x. f x ≡ true → ⊥) xs
each_fails P f [] never are = tt
each_fails P f (x ∷ xs) never are = (never x are.0, each_fails P f xs never are.1)

beside_made : (got s : Sid) (number : ℕ) → same_sid s (branch_sid got.release got.level number 1) ≡ true
    → is_beside got s ≡ true
beside_made got s number same =
    let is = same_is s (branch_sid got.release got.level number 1) same in
    subst (λ x. is_beside got x ≡ true) (sym is) (rw (equal_self got.release, equal_self got.level) refl)

branch_made : (got s : Sid) (number : ℕ) → same_sid s (branch_sid got.release got.level number 1) ≡ true
    → s.branch ≡ number
branch_made got s number same = ap (λ (x : Sid). x.branch) (same_is s (branch_sid got.release got.level number 1) same)

branch_free : (records : List Record) (reserved : List Sid) (got : Sid) (number : ℕ)
    → number ≡ taken_branch records reserved got + 1
    → is_taken records reserved (λ s. same_sid s (branch_sid got.release got.level number 1)) ≡ false
branch_free records reserved got number is =
    let live = passing_below (λ (r : Record). r.sid.branch) (λ r. not r.removed && is_beside got r.sid)
    (unwrap_or (live_branch records got) 0) records
    (greatest_above (map (λ r. r.sid.branch) (live_where (is_beside got) records))) in
    let others = passing_below (λ (s : Sid). s.branch) (is_beside got) (unwrap_or (reserved_branch reserved got) 0)
    reserved (greatest_above (map (λ s. s.branch) (filter (is_beside got) reserved))) in
    or_from (list_any (λ r. not r.removed && same_sid r.sid (branch_sid got.release got.level number 1)) records)
    (list_any (λ s. same_sid s (branch_sid got.release got.level number 1)) reserved)
    (none_any (λ r. not r.removed && same_sid r.sid (branch_sid got.release got.level number 1)) records
    (each_fails (λ r. (not r.removed && is_beside got r.sid) ≡ true → r.sid.branch ≤ unwrap_or
    (live_branch records got) 0) (λ r. not r.removed && same_sid r.sid (branch_sid got.release got.level number 1))
    records (λ r low both. live_no r low (and_parts (not r.removed)
    (same_sid r.sid (branch_sid got.release got.level number 1)) both)) live))
    (none_any (λ s. same_sid s (branch_sid got.release got.level number 1)) reserved
    (each_fails (λ s. is_beside got s ≡ true → s.branch ≤ unwrap_or (reserved_branch reserved got) 0)
    (λ s. same_sid s (branch_sid got.release got.level number 1)) reserved reserved_no others))
  where
    live_no : (r : Record) → ((not r.removed && is_beside got r.sid) ≡ true → r.sid.branch ≤ unwrap_or
        (live_branch records got) 0)
        → (not r.removed ≡ true) × (same_sid r.sid (branch_sid got.release got.level number 1) ≡ true) → ⊥
    live_no r low both =
        let top = low (and_from (not r.removed) (is_beside got r.sid) both.0 (beside_made got r.sid number both.1)) in
        let same = branch_made got r.sid number both.1 in
        omega (arith, top, same, is)

    reserved_no : (s : Sid) → (is_beside got s ≡ true → s.branch ≤ unwrap_or (reserved_branch reserved got) 0)
        → same_sid s (branch_sid got.release got.level number 1) ≡ true → ⊥
    reserved_no s low same =
        let top = low (beside_made got s number same) in
        let is_number = branch_made got s number same in
        omega (arith, top, is_number, is)

-- ---- the SID that is made

pub made_is_free : (records : List Record) (reserved : List Sid) (got sid : Sid) (spec : Option Spec) (branch : Bool)
    → made_on records reserved got spec branch ≡ Some sid
    → is_taken records reserved (λ s. same_sid s sid) ≡ false
made_is_free records reserved got sid spec branch is = by (branch || is_taken records reserved (comes_after got)) refl
    is
  where
    by : (t : Bool) → (branch || is_taken records reserved (comes_after got)) ≡ t
        → cond t (on_new_branch records reserved got) (next_on_line got spec) ≡ Some sid → is_taken records reserved
        (λ s. same_sid s sid) ≡ false
    by true test is =
        let (n, found, same) = mapped_is (λ number. branch_sid got.release got.level number 1)
        (next (taken_branch records reserved got)) sid is in
        subst (λ s. is_taken records reserved (λ x. same_sid x s) ≡ false) same (branch_free records reserved got n
        (next_is (taken_branch records reserved got) n found))
    by false test is = after_free records reserved got sid
        (or_parts branch (is_taken records reserved (comes_after got)) test).1 (line_made got sid spec is)
