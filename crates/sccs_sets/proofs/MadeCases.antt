-- The SID that is made, in the cases of POSIX get, where nothing is reserved.
use Rattle.std.proofs.Common.{◌≡◌, ◌≢◌, ℕ, ◌<◌, ◌≤◌, ◌==◌, nat_lt, nat_le, max, Bool, true, false, cond, not, ◌&&◌}
use Rattle.std.proofs.Common.{◌||◌, List, [], ◌∷◌, map, Option, None, Some, refl, sym, subst, ◌∙◌, arith, rules}
use Rattle.std.specs.Prelude.{filter, fold, unwrap_or}
use Rattle.std.specs.List.{AllByRecursion, list_any, reduce}
use Rattle.std.proofs.lemmas.Bool.{and_parts, eqb-true, true≢false, lt-ltb, or_parts, not-true, and_from}
use Rattle.sccs_sid.specs.declared.sids.Sid.{Sid}
use Rattle.sccs_sid.specs.declared.sids.Spec.{Spec}
use Rattle.sccs_sid.specs.declared.sids.Spec.TheVariants.{Release, Branch}
use Rattle.sccs_history.specs.declared.headers.Record.{Record}
use Rattle.sccs_sets.specs.Naming.{not_after}
use Rattle.sccs_sets.specs.Retrieved.{branch_sequence, branch_sid, live_where, trunk_level, trunk_release, trunk_sid}
use Rattle.sccs_sets.specs.Made.{comes_after, is_taken, made_on, next_level, next_on_line, on_new_branch}
use Rattle.sccs_sets.proofs.NewSids.{greatest_above, none_any, passing_below}

-- what passes a test isn't past the greatest
pub top_of_all : (value : Sid → ℕ) (test : Sid → Bool) (records : List Record) (top : ℕ)
    → reduce max (map (λ r. value r.sid) (live_where test records)) ≡ Some top
    → AllByRecursion (λ r. (not r.removed && test r.sid) ≡ true → value r.sid ≤ top) records
top_of_all value test records top is =
    subst (λ o. AllByRecursion (λ r. (not r.removed && test r.sid) ≡ true → value r.sid ≤ unwrap_or o 0) records) is
    (passing_below (λ (r : Record). value r.sid) (λ r. not r.removed && test r.sid)
    (unwrap_or (reduce max (map (λ r. value r.sid) (live_where test records))) 0) records
    (greatest_above (map (λ r. value r.sid) (live_where test records))))

lt_no : (a b : ℕ) → nat_lt a b ≡ false → b ≤ a
lt_no a b is = search (rules, arith)

le_no : (a b : ℕ) → nat_le a b ≡ false → b < a
le_no a b is = search (rules, arith)

and_no : (a b : Bool) → a ≡ true → (a && b) ≡ false → b ≡ false
and_no true b first is = is
and_no false b first is = cc

equal_is : (a b : ℕ) → a ≡ b → (a == b) ≡ true
equal_is a b is = search rules

-- ---- the newest of the trunk has no later one

later_no : (release level : ℕ) (r : Record) → ((not r.removed && (r.sid.branch == 0 && true)) ≡ true
    → r.sid.release ≤ release)
    → ((not r.removed && (r.sid.branch == 0 && r.sid.release == release)) ≡ true → r.sid.level ≤ level)
    → (not r.removed && comes_after (trunk_sid release level) r.sid) ≡ true → ⊥
later_no release level r low level_low after =
    let live = and_parts (not r.removed) (comes_after (trunk_sid release level) r.sid) after in
    let line = and_parts (r.sid.branch == 0) (not (not_after r.sid (trunk_sid release level))) live.1 in
    let top : r.sid.release ≤ release = low (and_from (not r.removed) (r.sid.branch == 0 && true) live.0
    (and_from (r.sid.branch == 0) true line.0 refl)) in
    let past : (nat_lt r.sid.release release || (r.sid.release == release && nat_le r.sid.level level)) ≡ false =
    (rw line.0 at (not-true (not_after r.sid (trunk_sid release level)) line.1)) in
    let parts = or_parts (nat_lt r.sid.release release) (r.sid.release == release && nat_le r.sid.level level) past in
    let least : release ≤ r.sid.release = lt_no r.sid.release release parts.0 in
    let same : r.sid.release ≡ release = omega (arith, top, least) in
    let higher : level < r.sid.level = le_no r.sid.level level (and_no (r.sid.release == release)
    (nat_le r.sid.level level) (equal_is r.sid.release release same) parts.1) in
    let under : r.sid.level ≤ level =
    level_low (and_from (not r.removed) (r.sid.branch == 0 && r.sid.release == release) live.0
    (and_from (r.sid.branch == 0) (r.sid.release == release) line.0 (equal_is r.sid.release release same))) in
    omega (arith, higher, under)

two_all : {P Q R : Record → Type 0} (rs : List Record) → ((r : Record) → P r → Q r → R r) → AllByRecursion P rs
    → AllByRecursion Q rs → AllByRecursion R rs
two_all [] join first second = tt
two_all (r ∷ rs) join first second = (join r first.0 second.0, two_all rs join first.1 second.1)

pub newest_free : (records : List Record) (release level : ℕ) → trunk_release records None ≡ Some release
    → trunk_level records release ≡ Some level
    → is_taken records [] (comes_after (trunk_sid release level)) ≡ false
newest_free records release level newest top =
    let none : list_any (λ r. not r.removed && comes_after (trunk_sid release level) r.sid) records ≡ false =
    none_any (λ r. not r.removed && comes_after (trunk_sid release level) r.sid) records
    (two_all {P = λ r. (not r.removed && (r.sid.branch == 0 && true)) ≡ true → r.sid.release ≤ release}
    {Q = λ r. (not r.removed && (r.sid.branch == 0 && r.sid.release == release)) ≡ true → r.sid.level ≤ level}
    {R = λ r. (not r.removed && comes_after (trunk_sid release level) r.sid) ≡ true → ⊥} records
    (later_no release level)
    (top_of_all (λ s. s.release) (λ s. s.branch == 0 && true) records release newest) (top_of_all (λ s. s.level)
    (λ s. s.branch == 0 && s.release == release) records level top)) in
    rw none refl

-- case 1, and case 4
pub on_newest : (records : List Record) (release level : ℕ) → trunk_release records None ≡ Some release
    → trunk_level records release ≡ Some level
    → (made_on records [] (trunk_sid release level) None false ≡ next_level (trunk_sid release level))
    × (made_on records [] (trunk_sid release level) (Some (Release release)) false ≡ next_level
    (trunk_sid release level))
on_newest records release level newest top =
    let free = newest_free records release level newest top in (rw free refl, rw (free, not_less release) refl)
  where
    not_less : (n : ℕ) → nat_lt n n ≡ false
    not_less n = search rules

-- case 3
pub in_later_release : (records : List Record) (release level later : ℕ) → trunk_release records None ≡ Some release
    → trunk_level records release ≡ Some level → release < later
    → made_on records [] (trunk_sid release level) (Some (Release later)) false ≡ Some (trunk_sid later 1)
in_later_release records release level later newest top past = rw (
  newest_free records release level newest top,
  lt-ltb release later past,
) refl

-- ---- the newest of a branch

sequence_no : (release level number sequence : ℕ) (r : Record) → number ≢ 0
    → ((not r.removed && (r.sid.release == release && (r.sid.level == level && r.sid.branch == number))) ≡ true
    → r.sid.sequence ≤ sequence)
    → (not r.removed && comes_after (branch_sid release level number sequence) r.sid) ≡ true → ⊥
sequence_no release level number sequence r branch low after =
    let live = and_parts (not r.removed) (comes_after (branch_sid release level number sequence) r.sid) after in
    let off : (number == 0) ≡ false = not_zero number branch in
    let test : ((release == r.sid.release && (level == r.sid.level && number == r.sid.branch))
    && not (not_after r.sid (branch_sid release level number sequence))) ≡ true = (rw off at live.1) in
    let line = and_parts (release == r.sid.release && (level == r.sid.level && number == r.sid.branch))
    (not (not_after r.sid (branch_sid release level number sequence))) test in
    let first = and_parts (release == r.sid.release) (level == r.sid.level && number == r.sid.branch) line.0 in
    let second = and_parts (level == r.sid.level) (number == r.sid.branch) first.1 in
    let same : number ≡ r.sid.branch = eqb-true number r.sid.branch second.1 in
    let here : (r.sid.branch == 0) ≡ false = not_zero r.sid.branch (λ is. branch (same ∙ is)) in
    let past : nat_le r.sid.sequence sequence ≡ false =
    (rw here at (not-true (not_after r.sid (branch_sid release level number sequence)) line.1)) in
    let higher : sequence < r.sid.sequence = le_no r.sid.sequence sequence past in
    let under : r.sid.sequence ≤ sequence =
    low (and_from (not r.removed) _ live.0 (and_from (r.sid.release == release) _ (equal_is r.sid.release release
    (sym (eqb-true release r.sid.release first.0))) (and_from (r.sid.level == level) (r.sid.branch == number)
    (equal_is r.sid.level level (sym (eqb-true level r.sid.level second.0))) (equal_is r.sid.branch number
    (sym same))))) in
    omega (arith, higher, under)
  where
    not_zero : (n : ℕ) → n ≢ 0 → (n == 0) ≡ false
    not_zero n some = search rules

one_all : {P R : Record → Type 0} (rs : List Record) → ((r : Record) → P r → R r) → AllByRecursion P rs
    → AllByRecursion R rs
one_all [] each first = tt
one_all (r ∷ rs) each first = (each r first.0, one_all rs each first.1)

-- case 12
pub on_branch : (records : List Record) (release level number sequence : ℕ) → number ≢ 0
    → branch_sequence records release level number ≡ Some sequence
    → made_on records [] (branch_sid release level number sequence) (Some (Branch release level number)) false
    ≡ next_on_line (branch_sid release level number sequence) None
on_branch records release level number sequence branch top =
    let none : list_any (λ r. not r.removed && comes_after (branch_sid release level number sequence) r.sid) records
    ≡ false =
    none_any (λ r. not r.removed && comes_after (branch_sid release level number sequence) r.sid) records
    (one_all {P = λ r. (not r.removed && (r.sid.release == release && (r.sid.level == level && r.sid.branch == number)))
    ≡ true → r.sid.sequence ≤ sequence}
    {R = λ r. (not r.removed && comes_after (branch_sid release level number sequence) r.sid) ≡ true → ⊥} records
    (λ r low. sequence_no release level number sequence r branch low)
    (top_of_all (λ s. s.sequence) (λ s. s.release == release && (s.level == level && s.branch == number)) records
    sequence top)) in
    rw (none, not_zero number branch) refl
  where
    not_zero : (n : ℕ) → n ≢ 0 → (n == 0) ≡ false
    not_zero n some = search rules

-- ---- a release before the newest one

max_other : (n x top : ℕ) → n ≢ top → x ≢ top → max n x ≢ top
max_other n x top first second is = omega (arith, is, first, second)

fold_avoids : (top n : ℕ) (xs : List ℕ) → n ≢ top → AllByRecursion (λ x. x ≢ top) xs → fold max n xs ≢ top
fold_avoids top n [] other others = other
fold_avoids top n (x ∷ xs) other others = fold_avoids top (max n x) xs (max_other n x top other others.0) others.1

reduce_avoids : (top : ℕ) (xs : List ℕ) → AllByRecursion (λ x. x ≢ top) xs → reduce max xs ≡ Some top → ⊥
reduce_avoids top [] others is = cc
reduce_avoids top (x ∷ xs) others is = let same : fold max x xs ≡ top = cc in
    fold_avoids top x xs others.0 others.1 same

passing_avoid : (value : Record → ℕ) (test : Record → Bool) (top : ℕ) (rs : List Record)
    → AllByRecursion (λ r. test r ≡ true → value r ≢ top) rs → AllByRecursion (λ v. v ≢ top)
    (map value (filter test rs))
passing_avoid value test top [] others = tt
passing_avoid value test top (r ∷ rs) others = by (test r) refl (passing_avoid value test top rs others.1)
  where
    by : (t : Bool) → test r ≡ t → AllByRecursion (λ v. v ≢ top) (map value (filter test rs))
        → AllByRecursion (λ v. v ≢ top) (map value (cond t (r ∷ filter test rs) (filter test rs)))
    by true here rest = (others.0 here, rest)
    by false here rest = rest

none_each : (f : Record → Bool) (rs : List Record) → list_any f rs ≡ false → AllByRecursion (λ r. f r ≡ false) rs
none_each f [] none = tt
none_each f (r ∷ rs) none = let parts = or_parts (f r) (list_any f rs) none in (parts.0, none_each f rs parts.1)

after_earlier : (release level newest : ℕ) (r : Record) → release < newest
    → (not r.removed && comes_after (trunk_sid release level) r.sid) ≡ false
    → (not r.removed && (r.sid.branch == 0 && true)) ≡ true → r.sid.release ≢ newest
after_earlier release level newest r low none live is =
    let parts = and_parts (not r.removed) (r.sid.branch == 0 && true) live in
    let trunk : r.sid.branch == 0 ≡ true = (and_parts (r.sid.branch == 0) true parts.1).0 in
    let less : nat_lt r.sid.release release ≡ false = not_lt r.sid.release release (omega (arith, low, is)) in
    let other : (r.sid.release == release) ≡ false = not_eq r.sid.release release (omega (arith, low, is)) in
    let after : comes_after (trunk_sid release level) r.sid ≡ true = rw (trunk, less, other) refl in
    true≢false (sym (and_from (not r.removed) (comes_after (trunk_sid release level) r.sid) parts.0 after) ∙ none)
  where
    not_lt : (a b : ℕ) → b < a → nat_lt a b ≡ false
    not_lt a b more = search (rules, arith)

    not_eq : (a b : ℕ) → b < a → (a == b) ≡ false
    not_eq a b more = search (rules, arith)

-- cases 7 and 8, and the last of a release before the newest in the others
pub on_earlier : (records : List Record) (release level newest : ℕ) (spec : Option Spec) (branch : Bool)
    → trunk_release records None ≡ Some newest → release < newest
    → made_on records [] (trunk_sid release level) spec branch ≡ on_new_branch records [] (trunk_sid release level)
on_earlier records release level newest spec branch top low =
    by (list_any (λ r. not r.removed && comes_after (trunk_sid release level) r.sid) records) refl branch
  where
    by : (t : Bool) → list_any (λ r. not r.removed && comes_after (trunk_sid release level) r.sid) records ≡ t
        → (b : Bool)
        → cond (b || (t || false)) (on_new_branch records [] (trunk_sid release level))
        (next_on_line (trunk_sid release level) spec) ≡ on_new_branch records [] (trunk_sid release level)
    by t is true = refl
    by true is false = refl
    by false none false =
        absurd (reduce_avoids newest (map (λ r. r.sid.release) (live_where (λ s. s.branch == 0 && true) records))
        (passing_avoid (λ r. r.sid.release) (λ r. not r.removed && (r.sid.branch == 0 && true)) newest records
        (one_all {P = λ r. (not r.removed && comes_after (trunk_sid release level) r.sid) ≡ false}
        {R = λ r. (not r.removed && (r.sid.branch == 0 && true)) ≡ true → r.sid.release ≢ newest} records
        (λ r no_later. after_earlier release level newest r low no_later)
        (none_each (λ r. not r.removed && comes_after (trunk_sid release level) r.sid) records none)))
        top)
