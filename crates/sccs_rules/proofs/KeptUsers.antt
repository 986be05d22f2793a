-- Users that stay where names go that are looked up in a set.
use Rattle.std.proofs.Common.{◌≡◌, ℕ, ◌≤◌, ◌==◌, Bool, true, not, List, [], ◌∷◌, ◌++◌, length, drop, refl, sym, ap, ◌∙◌}
use Rattle.std.proofs.Common.{arith}
use Rattle.std.specs.Prelude.{filter}
use Rattle.std.specs.BTreeSet.{BTreeSet}
use Rattle.std.specs.Global.{Vec}
use Rattle.std.proofs.Math.Path.{fun_ext}
use Rattle.std.proofs.lemmas.Bool.{eqb-true}
use Rattle.std.proofs.lemmas.List.{at_drop_all}
use Rattle.sccs_base.specs.NameSets.{HasNames, names_in}
use Rattle.sccs_rules.specs.Users.{without_users}

none_goes : (users : List (List ℕ)) → users ≡ without_users [] users
none_goes [] = refl
none_goes (user ∷ users) = ap (λ (rest : List (List ℕ)). user ∷ rest) (none_goes users)

no_names : (names : List (List ℕ)) → true ≡ (length names == 0) → names ≡ []
no_names [] is = refl
no_names (name ∷ names) is = let none : length (name ∷ names) ≡ 0 = eqb-true (length (name ∷ names)) 0 (sym is) in
    absurd (omega (arith, none))

-- where no name goes all stay
pub all_stay : (names users : List (List ℕ)) → true ≡ (length names == 0) → users ≡ without_users names users
all_stay names users none = none_goes users ∙ ap (λ (ns : List (List ℕ)). without_users ns users)
    (sym (no_names names none))

bare : (users : List (List ℕ)) → users ++ [] ≡ users
bare [] = refl
bare (user ∷ users) = ap (λ (rest : List (List ℕ)). user ∷ rest) (bare users)

-- the names of a set go where those of a list do
pub kept_all : (names users kept : List (List ℕ)) (set : BTreeSet (Vec ℕ)) (k : ℕ) → length users ≤ k
    → HasNames set names
    → kept ++ without_users (names_in set) (drop k users) ≡ without_users (names_in set) users
    → kept ≡ without_users names users
kept_all names users kept set k past has all =
    sym (bare kept)
    ∙ (sym (at_drop_all (λ (l : List (List ℕ)). kept ++ without_users (names_in set) l) users k past)
    ∙ (all ∙ ap (λ (test : List ℕ → Bool). filter test users) (fun_ext (λ user. ap (λ (b : Bool). not b) (has user)))))
