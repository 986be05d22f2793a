-- How statuses are joined: laws.
use Rattle.std.proofs.Common.{◌≡◌, ◌⊎◌, ◌<◌, ◌==◌, ℕ, zero, suc, max, true, false, eqb-true, inl, inr, refl, sym, ap}
use Rattle.std.proofs.Common.{◌∙◌, arith}
use Rattle.std.proofs.lemmas.Bool.{cases_Bool}
use Rattle.sccs_steps.specs.Statuses.{idle_status, joined_status, zero_or_greater}
use Rattle.sccs_steps.specs.declared.statuses.StatusRule.{StatusRule}
use Rattle.sccs_steps.specs.declared.statuses.StatusRule.TheVariants.{Greatest, AnyZero}

not_zero : (a : ℕ) → 0 < a → (a == 0) ≡ false
not_zero a some = by (cases_Bool (a == 0))
  where
    by : (a == 0 ≡ true) ⊎ (a == 0 ≡ false) → (a == 0) ≡ false
    by (inl is) = let e : a ≡ 0 = eqb-true a 0 is in absurd (omega (arith, some, e))
    by (inr is) = is

both_positive : (a b : ℕ) → 0 < a → 0 < b → zero_or_greater a b ≡ max a b
both_positive a b p q = rw (not_zero a p) (rw (not_zero b q) refl)

last_zero : (a : ℕ) → zero_or_greater a 0 ≡ 0
last_zero a = by (cases_Bool (a == 0))
  where
    by : (a == 0 ≡ true) ⊎ (a == 0 ≡ false) → zero_or_greater a 0 ≡ 0
    by (inl is) = rw is refl
    by (inr is) = rw is refl

pub idle_first : (rule : StatusRule) (s : ℕ) → joined_status rule (idle_status rule) s ≡ s
idle_first Greatest s = omega arith
idle_first AnyZero zero = last_zero 1
idle_first AnyZero (suc s) = both_positive 1 (suc s) (omega arith) (omega arith) ∙ omega arith

pub idle_last : (rule : StatusRule) (s : ℕ) → joined_status rule s (idle_status rule) ≡ s
idle_last Greatest s = omega arith
idle_last AnyZero zero = refl
idle_last AnyZero (suc s) = both_positive (suc s) 1 (omega arith) (omega arith) ∙ omega arith

grouped_positive : (a b c : ℕ) → 0 < a → 0 < b → 0 < c → zero_or_greater (zero_or_greater a b) c ≡ zero_or_greater a
    (zero_or_greater b c)
grouped_positive a b c p q r =
    ap (λ x. zero_or_greater x c) (both_positive a b p q)
    ∙ (both_positive (max a b) c (omega (arith, p)) r
    ∙ ((let e : max (max a b) c ≡ max a (max b c) = omega arith in e)
    ∙ (sym (both_positive a (max b c) p (omega (arith, q))) ∙ ap (λ x. zero_or_greater a x)
    (sym (both_positive b c q r)))))

pub grouped : (rule : StatusRule) (a b c : ℕ) → joined_status rule (joined_status rule a b) c ≡ joined_status rule a
    (joined_status rule b c)
grouped Greatest a b c = omega arith
grouped AnyZero zero b c = refl
grouped AnyZero (suc a) zero c = ap (λ x. zero_or_greater x c) (last_zero (suc a)) ∙ sym (last_zero (suc a))
grouped AnyZero (suc a) (suc b) zero = last_zero (zero_or_greater (suc a) (suc b))
    ∙ sym (ap (λ x. zero_or_greater (suc a) x) (last_zero (suc b)) ∙ last_zero (suc a))
grouped AnyZero (suc a) (suc b) (suc c) = grouped_positive (suc a) (suc b) (suc c) (omega arith) (omega arith)
    (omega arith)
