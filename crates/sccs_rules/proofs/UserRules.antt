-- Users that are added and erased keep what holds of each line.
use Rattle.std.proofs.Common.{◌≡◌, ◌≢◌, ℕ, ◌==◌, Bool, true, false, cond, not, ◌&&◌, List, [], ◌∷◌, ◌++◌, fold, refl}
use Rattle.std.proofs.Common.{subst}
use Rattle.std.specs.List.{AllByRecursion, list_any}
use Rattle.std.specs.Str.{bytes_eq}
use Rattle.std.proofs.lemmas.List.Elements.{All-from_recursion}
use Rattle.sccs_base.specs.Cut.{HasNoLf}
use Rattle.sccs_sid.specs.SidLists.{begins}
use Rattle.sccs_rules.specs.Users.{changed_users, has_lf, is_own_line, with_user}
use Rattle.sccs_rules.proofs.Spaced.{all_both, all_filtered}
use Rattle.std.proofs.lemmas.Bool.{or_parts}
use Rattle.sccs_base.proofs.Bools.{left_true}

added_by : (P : List ℕ → Type 0) (t : Bool) (users : List (List ℕ)) (name : List ℕ) → (t ≡ true → P name)
    → AllByRecursion P users → AllByRecursion P (cond t (users ++ name ∷ []) users)
added_by P true users name line all = all_both P users (name ∷ []) all (line refl, tt)
added_by P false users name line all = all

user_added : (P : List ℕ → Type 0) → ((name : List ℕ) → is_own_line name ≡ true → P name) → (users : List (List ℕ))
    (name : List ℕ) → AllByRecursion P users → AllByRecursion P (with_user users name)
user_added P line users name all =
    added_by P (is_own_line name && not (list_any (bytes_eq name) users)) users name
    (λ is. line name (left_true (is_own_line name) (not (list_any (bytes_eq name) users)) is)) all

users_added : (P : List ℕ → Type 0) → ((name : List ℕ) → is_own_line name ≡ true → P name)
    → (users names : List (List ℕ)) → AllByRecursion P users → AllByRecursion P (fold with_user users names)
users_added P line users [] all = all
users_added P line users (name ∷ names) all = users_added P line (with_user users name) names
    (user_added P line users name all)

pub users_changed : (P : List ℕ → Type 0) → ((name : List ℕ) → is_own_line name ≡ true → P name)
    → (users added erased : List (List ℕ)) → AllByRecursion P users
    → AllByRecursion P (changed_users users added erased)
users_changed P line users added erased all =
    all_filtered P (λ user. not (list_any (bytes_eq user) erased)) (fold with_user users added)
    (users_added P line users added all)

-- ---- lines

is_false : (a b : Bool) → (not a && b) ≡ true → a ≡ false
is_false true b is = absurd cc
is_false false b is = refl

pub own_bare : (name : List ℕ) → is_own_line name ≡ true → begins 1 name ≡ false
own_bare name is = is_false (begins 1 name) (not (has_lf name)) is

other_byte : (b : ℕ) → (b == 10) ≡ false → b ≢ 10
other_byte b is same = let itself : (10 == 10) ≡ false = subst (λ k. (k == 10) ≡ false) same is in absurd cc

pub no_lf : (bytes : List ℕ) → has_lf bytes ≡ false → AllByRecursion (λ b. b ≢ 10) bytes
no_lf [] is = tt
no_lf (b ∷ bytes) is = let none = or_parts (b == 10) (has_lf bytes) is in (other_byte b none.0, no_lf bytes none.1)

pub line_of : (bytes : List ℕ) → has_lf bytes ≡ false → HasNoLf bytes
line_of bytes is = All-from_recursion (λ b. b ≢ 10) bytes (no_lf bytes is)

pub rest_false : (a b : Bool) → (a && not b) ≡ true → b ≡ false
rest_false true true is = absurd cc
rest_false true false is = refl
rest_false false b is = absurd cc

pub own_line : (name : List ℕ) → is_own_line name ≡ true → HasNoLf name
own_line name is = line_of name (rest_false (not (begins 1 name)) (has_lf name) is)
