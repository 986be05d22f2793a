-- The numbers below a bound that pass a test.
use Rattle.std.proofs.Common.{◌≡◌, ℕ, zero, suc, ◌<◌, ◌≤◌, ◌⊎◌, ◌==◌, Bool, true, false, ◌||◌, List, [], ◌∷◌, refl, sym}
use Rattle.std.proofs.Common.{subst, ap, ◌∙◌, inl, inr, ⊎_elim, arith, eq-eqb}
use Rattle.std.specs.List.{AllByRecursion}
use Rattle.std.proofs.lemmas.Bool.{eqb-true, false≢true, or_cases, or_left, or_right, cases_lt, ne_eqb}
use Rattle.sccs_history.specs.Numbers.{is_empty, front_if, falling, first, has, Falls, IsFalling}

pub has_front : (b : Bool) (m : ℕ) (ms : List ℕ) (n : ℕ) → has ms n ≡ true → has (front_if b m ms) n ≡ true
has_front true m ms n h = or_right (m == n) (has ms n) h
has_front false m ms n h = h

pub has_front_self : (b : Bool) (m : ℕ) (ms : List ℕ) → b ≡ true → has (front_if b m ms) m ≡ true
has_front_self true m ms e = or_left (m == m) (has ms m) (eq-eqb m m refl)
has_front_self false m ms e = absurd (false≢true e)

pub front_has : (b : Bool) (m : ℕ) (ms : List ℕ) (n : ℕ) → has (front_if b m ms) n ≡ true → ((b ≡ true) × (m ≡ n))
    ⊎ (has ms n ≡ true)
front_has true m ms n h = ⊎_elim (λ e. inl (refl, eqb-true m n e)) (λ e. inr e) (or_cases (m == n) (has ms n) h)
front_has false m ms n h = inr h

-- a number that is there is below the bound and passes
pub falling_has : (b : ℕ) (test : ℕ → Bool) (n : ℕ) → has (falling b test) n ≡ true → (n < b) × (test n ≡ true)
falling_has zero test n h = absurd (false≢true h)
falling_has (suc b) test n h =
    ⊎_elim (λ s. let here : b ≡ n = s.1 in (omega arith, subst (λ k. test k ≡ true) here s.0))
    (λ s. let rest = falling_has b test n s in (omega (arith, rest.0), rest.1))
    (front_has (test b) b (falling b test) n h)

-- a number below the bound that passes is there
pub has-falling : (b : ℕ) (test : ℕ → Bool) (n : ℕ) → n < b → test n ≡ true → has (falling b test) n ≡ true
has-falling zero test n below pass = absurd (omega arith)
has-falling (suc b) test n below pass =
    ⊎_elim (λ s. has_front (test b) b (falling b test) n (has-falling b test n s pass))
    (λ s. let here : b ≡ n = omega arith in
    subst (λ k. has (front_if (test b) b (falling b test)) k ≡ true) here (has_front_self (test b) b (falling b test)
    (subst (λ k. test k ≡ true) (sym here) pass)))
    (cases_lt n b)

pub All-front : (P : ℕ → Type 0) (b : Bool) (m : ℕ) (ms : List ℕ) → (b ≡ true → P m) → AllByRecursion P ms
    → AllByRecursion P (front_if b m ms)
All-front P true m ms here rest = (here refl, rest)
All-front P false m ms here rest = rest

-- what holds of each number that passes holds of each that is there
pub All-falling : (P : ℕ → Type 0) (b : ℕ) (test : ℕ → Bool) → ((n : ℕ) → test n ≡ true → P n)
    → AllByRecursion P (falling b test)
All-falling P zero test each = tt
All-falling P (suc b) test each = All-front P (test b) b (falling b test) (each b) (All-falling P b test each)

pub Falls-wider : (low high : ℕ) (ns : List ℕ) → low ≤ high → Falls low ns → Falls high ns
Falls-wider low high [] le h = tt
Falls-wider low high (n ∷ ns) le h = (omega (arith, h.0), h.1)

Falls-front : (b : ℕ) (pass : Bool) (ns : List ℕ) → Falls b ns → Falls (suc b) (front_if pass b ns)
Falls-front b true ns h = (omega arith, h)
Falls-front b false ns h = Falls-wider b (suc b) ns (omega arith) h

pub Falls-falling : (b : ℕ) (test : ℕ → Bool) → Falls b (falling b test)
Falls-falling zero test = tt
Falls-falling (suc b) test = Falls-front b (test b) (falling b test) (Falls-falling b test)

pub IsFalling-from_Falls : (b : ℕ) (ns : List ℕ) → Falls b ns → IsFalling ns
IsFalling-from_Falls b [] h = tt
IsFalling-from_Falls b (n ∷ ns) h = h.1

-- where some number is there, the first is there
pub has-first : (ns : List ℕ) → is_empty ns ≡ false → has ns (first ns) ≡ true
has-first [] e = absurd (false≢true (sym e))
has-first (n ∷ ns) e = or_left (n == n) (has ns n) (eq-eqb n n refl)

-- two tests that answer alike below the bound
pub falling-alike : (b : ℕ) (p q : ℕ → Bool) → ((m : ℕ) → m < b → p m ≡ q m) → falling b p ≡ falling b q
falling-alike zero p q alike = refl
falling-alike (suc b) p q alike =
    ap (λ t. front_if t b (falling b p)) (alike b (omega arith)) ∙ ap (λ l. front_if (q b) b l)
    (falling-alike b p q (λ m lt. alike m (omega arith)))

-- numbers below a bound don't have it
pub has-falls : (ns : List ℕ) (b m : ℕ) → Falls b ns → b ≤ m → has ns m ≡ false
has-falls [] b m falls le = refl
has-falls (n ∷ ns) b m falls le =
    ap (λ t. t || has ns m) (ne_eqb n m (λ e. omega (arith, falls.0))) ∙ has-falls ns n m falls.1
    (omega (arith, falls.0))

-- the numbers that a list has are the list, where it falls
pub falling-has : (b : ℕ) (ns : List ℕ) → Falls b ns → falling b (has ns) ≡ ns
falling-has zero [] falls = refl
falling-has zero (n ∷ ns) falls = absurd (omega (arith, falls.0))
falling-has (suc b) [] falls = falling-has b [] tt
falling-has (suc b) (n ∷ ns) falls =
    ⊎_elim (λ lt. ap (λ t. front_if t b (falling b (has (n ∷ ns)))) (has-falls (n ∷ ns) b b (lt, falls.1) (omega arith))
    ∙ falling-has b (n ∷ ns) (lt, falls.1))
    (λ le. let here : n ≡ b = omega (arith, falls.0) in
    let rest : Falls b ns = Falls-wider n b ns (omega arith) falls.1 in
    ap (λ t. front_if (t || has ns b) b (falling b (has (n ∷ ns)))) (eq-eqb n b here)
    ∙ (ap (λ l. b ∷ l) (falling-alike b (has (n ∷ ns)) (has ns) (λ m lt. ap (λ t. t || has ns m)
    (ne_eqb n m (λ e. omega arith))) ∙ falling-has b ns rest) ∙ ap (λ k. k ∷ ns) (sym here)))
    (cases_lt n b)
