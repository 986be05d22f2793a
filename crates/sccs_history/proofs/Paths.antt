-- The path of a delta is the delta and its ancestors.
use Rattle.std.proofs.Common.{◌≡◌, ℕ, zero, suc, ◌==◌, ◌<◌, ◌⊎◌, Bool, true, false, cond, List, [], ◌∷◌, refl, sym}
use Rattle.std.proofs.Common.{subst, ap, ◌∙◌, inl, inr, ⊎_elim, arith, eq-eqb}
use Rattle.std.specs.List.{Contains}
use Rattle.std.proofs.lemmas.Bool.{ne_eqb, eqb-true, or_cases, or_left, or_right, false≢true}
use Rattle.std.proofs.lemmas.List.Elements.{Contains-append_cases, Contains-append_right, Contains-append_left}
use Rattle.std.proofs.lemmas.List.Elements.{Contains-push, All-contains, All-from_recursion}
use Rattle.sccs_history.specs.Numbers.{front_if, has, Falls}
use Rattle.sccs_history.specs.Applied.{path, OnPath, itself, before, serials_of, GoesBack}
use Rattle.sccs_history.specs.declared.headers.Record.{Record}
use Rattle.sccs_history.proofs.AppliedSets.{falls_front}

only_one : (r a : Record) → Contains (r ∷ []) a → r ≡ a
only_one r a (zero, lt, e) = e
only_one r a (suc k, lt, e) = absurd (omega arith)

-- an element of a list that begins with one
contains_cases : (r : Record) (rs : List Record) (a : Record) → Contains (r ∷ rs) a → (r ≡ a) ⊎ Contains rs a
contains_cases r rs a there = ⊎_elim (λ one. inl (only_one r a one)) (λ rest. inr rest)
    (Contains-append_cases (r ∷ []) rs a there)

contains_head : (r : Record) (rs : List Record) → Contains (r ∷ rs) r
contains_head r rs = Contains-append_left (r ∷ []) rs r (Contains-push [] r)

contains_tail : (r : Record) (rs : List Record) (a : Record) → Contains rs a → Contains (r ∷ rs) a
contains_tail r rs a there = Contains-append_right (r ∷ []) rs a there

path_step : (all rs : List Record) (r : Record) (t n : ℕ) (b : Bool) → (r.serial == t) ≡ b → Contains all r
    → (has (path r.predecessor rs) n ≡ true → OnPath all r.predecessor n) → (has (path t rs) n ≡ true → OnPath all t n)
    → has (front_if b r.serial (path (cond b r.predecessor t) rs)) n ≡ true → OnPath all t n
path_step all rs r t n true e here back on there =
    subst (λ k. OnPath all k n) (eqb-true r.serial t e)
    (⊎_elim (λ h. subst (λ k. OnPath all r.serial k) (eqb-true r.serial n h) (itself r here))
    (λ h. before r n here (back h))
    (or_cases (r.serial == n) (has (path r.predecessor rs) n) there))
path_step all rs r t n false e here back on there = on there

-- all on the computed path is on it by the relation, in any table that has these records
path_on : (all rs : List Record) (t n : ℕ) → ((r : Record) → Contains rs r → Contains all r) → has (path t rs) n ≡ true
    → OnPath all t n
path_on all [] t n within there = absurd (false≢true there)
path_on all (r ∷ rs) t n within there =
    let rest : (a : Record) → Contains rs a → Contains all a = λ a here. within a (contains_tail r rs a here) in
    path_step all rs r t n (r.serial == t) refl (within r (contains_head r rs)) (path_on all rs r.predecessor n rest)
    (path_on all rs t n rest) there

path_skip : (r : Record) (rs : List Record) (t : ℕ) → t < r.serial → path t (r ∷ rs) ≡ path t rs
path_skip r rs t lt = ap (λ b. front_if b r.serial (path (cond b r.predecessor t) rs))
    (ne_eqb r.serial t (λ e. omega arith))

below_bound : (rs : List Record) (b : ℕ) (a : Record) → Falls b (serials_of rs) → Contains rs a → a.serial < b
below_bound [] b a falls (k, lt, e) = absurd (omega arith)
below_bound (r ∷ rs) b a falls there =
    ⊎_elim (λ e. subst (λ x. x.serial < b) e falls.0) (λ rest. let lower : a.serial < r.serial =
    below_bound rs r.serial a falls.1 rest in omega (arith, falls.0)) (contains_cases r rs a there)

path_here : (r : Record) (rs : List Record) → r.predecessor < r.serial → path r.serial (r ∷ rs) ≡ r.serial
    ∷ path r.predecessor (r ∷ rs)
path_here r rs back =
    ap (λ b. front_if b r.serial (path (cond b r.predecessor r.serial) rs)) (eq-eqb r.serial r.serial refl)
    ∙ ap (λ l. r.serial ∷ l) (sym (path_skip r rs r.predecessor back))

-- the path of a record of the table is the record, and the path of its predecessor
pub path_at : (rs : List Record) (b : ℕ) (a : Record) → Falls b (serials_of rs) → GoesBack rs → Contains rs a
    → path a.serial rs ≡ a.serial ∷ path a.predecessor rs
path_at [] b a falls back (k, lt, e) = absurd (omega arith)
path_at (r ∷ rs) b a falls back there =
    ⊎_elim (λ e. subst (λ x. path x.serial (r ∷ rs) ≡ x.serial ∷ path x.predecessor (r ∷ rs)) e (path_here r rs back.0))
    (λ rest. let lower : a.serial < r.serial = below_bound rs r.serial a falls.1 rest in
    let older : a.predecessor < a.serial = All-contains (λ x. x.predecessor < x.serial) rs a
    (All-from_recursion (λ x. x.predecessor < x.serial) rs back.1) rest in
    path_skip r rs a.serial lower ∙ (path_at rs r.serial a falls.1 back.1 rest ∙ ap (λ l. a.serial ∷ l)
    (sym (path_skip r rs a.predecessor (omega arith)))))
    (contains_cases r rs a there)

on_path : (rs : List Record) (b : ℕ) → Falls b (serials_of rs) → GoesBack rs → (t n : ℕ) → OnPath rs t n
    → has (path t rs) n ≡ true
on_path rs b falls back t n (itself r here) =
    subst (λ l. has l r.serial ≡ true) (sym (path_at rs b r falls back here)) (or_left (r.serial == r.serial)
    (has (path r.predecessor rs) r.serial) (eq-eqb r.serial r.serial refl))
on_path rs b falls back t n (before r m here rest) =
    subst (λ l. has l m ≡ true) (sym (path_at rs b r falls back here)) (or_right (r.serial == m)
    (has (path r.predecessor rs) m) (on_path rs b falls back r.predecessor m rest))

pub path_both : (rs : List Record) (b : ℕ) → Falls b (serials_of rs) → GoesBack rs → (t n : ℕ)
    → (has (path t rs) n ≡ true → OnPath rs t n) × (OnPath rs t n → has (path t rs) n ≡ true)
path_both rs b falls back t n = (path_on rs rs t n (λ r here. here), on_path rs b falls back t n)

-- a path falls, as its table does
pub path_falls : (t : ℕ) (rs : List Record) (b : ℕ) → Falls b (serials_of rs) → Falls b (path t rs)
path_falls t [] b falls = tt
path_falls t (r ∷ rs) b falls =
    let next : ℕ = cond (r.serial == t) r.predecessor t in
    falls_front (r.serial == t) r.serial (path next rs) b falls.0 (path_falls next rs r.serial falls.1)
