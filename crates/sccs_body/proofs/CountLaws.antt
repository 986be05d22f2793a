-- How many marks pass a test.
use Rattle.std.proofs.Common.{◌≡◌, ℕ, ◌+◌, Bool, true, false, cond, ◌||◌, nat_lt, List, [], ◌∷◌, refl, ap, ◌∙◌, arith}
use Rattle.std.specs.List.{list_any, count_by}
use Rattle.std.proofs.lemmas.Bool.{lt-ltb}
use Rattle.std.proofs.lemmas.List.Sums.{sum_by-cons}
use Rattle.sccs_body.specs.declared.marks.Mark.{Mark}

-- with one more mark in front
any_by : (t : Bool) (p : Mark → Bool) (m : Mark) (ms : List Mark) → p m ≡ t → nat_lt 0 (count_by p ms) ≡ list_any p ms
    → nat_lt 0 (cond t 1 0 + count_by p ms) ≡ (t || list_any p ms)
any_by true p m ms is rest = lt-ltb 0 (1 + count_by p ms) (omega arith)
any_by false p m ms is rest =
    let same : 0 + count_by p ms ≡ count_by p ms = omega arith in
    ap (λ (n : ℕ). nat_lt 0 n) same ∙ rest

-- some mark passes where their number isn't 0
pub counted_any : (p : Mark → Bool) (ms : List Mark) → nat_lt 0 (count_by p ms) ≡ list_any p ms
counted_any p [] = refl
counted_any p (m ∷ ms) = ap (λ (n : ℕ). nat_lt 0 n) (sum_by-cons (λ x. cond (p x) 1 0) m ms) ∙ any_by (p m) p m ms refl
    (counted_any p ms)
