-- Keys of four numbers that are equal.
use Rattle.std.proofs.Common.{◌≡◌, ℕ, ◌==◌, Bool, ◌&&◌, refl, ap, ◌∙◌, rules}
use Rattle.std.specs.Ordering.{is_eq, nat_cmp, ordering_then}
use Rattle.std.specs.declared.cmp.Ordering.{Ordering}
use Rattle.std.specs.declared.cmp.Ordering.TheVariants.{Less, Equal, Greater}
use Rattle.sccs_sid.specs.declared.sids.Sid.{Sid}
use Rattle.sccs_sid.specs.FourNumbers.{four_cmp}

nat_same : (a b : ℕ) → is_eq (nat_cmp a b) ≡ (a == b)
nat_same a b = search rules

then_same : (o p : Ordering) → is_eq (ordering_then o p) ≡ (is_eq o && is_eq p)
then_same Less p = refl
then_same Equal p = refl
then_same Greater p = refl

-- the four numbers are equal
abbrev pub same_four : ℕ × ℕ × ℕ × ℕ → ℕ × ℕ × ℕ × ℕ → Bool
same_four x y = ((x.0 == y.0 && x.1 == y.1) && x.2 == y.2) && x.3 == y.3

pub four_same : (x y : ℕ × ℕ × ℕ × ℕ) → is_eq (four_cmp x y) ≡ same_four x y
four_same x y =
    then_same (ordering_then (ordering_then (nat_cmp x.0 y.0) (nat_cmp x.1 y.1)) (nat_cmp x.2 y.2)) (nat_cmp x.3 y.3)
    ∙ (ap (λ t. t && is_eq (nat_cmp x.3 y.3)) (then_same (ordering_then (nat_cmp x.0 y.0) (nat_cmp x.1 y.1))
    (nat_cmp x.2 y.2)
    ∙ ap (λ t. t && is_eq (nat_cmp x.2 y.2)) (then_same (nat_cmp x.0 y.0) (nat_cmp x.1 y.1)))
    ∙ (ap (λ t. ((t && is_eq (nat_cmp x.1 y.1)) && is_eq (nat_cmp x.2 y.2)) && is_eq (nat_cmp x.3 y.3))
    (nat_same x.0 y.0)
    ∙ (ap (λ t. ((x.0 == y.0 && t) && is_eq (nat_cmp x.2 y.2)) && is_eq (nat_cmp x.3 y.3)) (nat_same x.1 y.1)
    ∙ (ap (λ t. ((x.0 == y.0 && x.1 == y.1) && t) && is_eq (nat_cmp x.3 y.3)) (nat_same x.2 y.2)
    ∙ ap (λ t. ((x.0 == y.0 && x.1 == y.1) && x.2 == y.2) && t) (nat_same x.3 y.3)))))

-- ---- SIDs of four numbers

abbrev pub of_four : ℕ → ℕ → ℕ → ℕ → Sid
of_four r l b s = record { release = r; level = l; branch = b; sequence = s }
