-- The lines of a text, counted, and the LF that it lacks.
use Rattle.std.proofs.Common.{◌≡◌, ℕ, suc, ◌+◌, ◌-◌, ◌<◌, ◌≤◌, ◌==◌, Bool, true, false, cond, List, [], ◌∷◌, ◌++◌}
use Rattle.std.proofs.Common.{length, get_or, refl, sym, ap, ◌∙◌, arith, length-append}
use Rattle.std.proofs.lemmas.Bool.{ne_eqb}
use Rattle.sccs_table.proofs.RunLaws.{cut_joined}
use Rattle.sccs_base.specs.Cut.{cut, closed, text_of, without_lf}
use Rattle.sccs_sid.specs.SidLists.{begins}
use Rattle.sccs_tokens.specs.Written.{bytes_of, ended}
use Rattle.sccs_admin.specs.Texts.{lacking}

-- whether a line begins with SOH doesn't hang on its LF
by_lf : (b : ℕ) (t : Bool) → (b == 10) ≡ t → (b == 1) ≡ begins 1 (cond t [] (b ∷ []))
by_lf b true is = one_of b is
  where
    one_of : (b : ℕ) → (b == 10) ≡ true → (b == 1) ≡ false
    one_of b is = grind arith
by_lf b false is = refl

-- a list with an item isn't empty
filled : (n : ℕ) → true ≡ (suc n == 0) → ⊥
filled n is = let other : (suc n == 0) ≡ false = ne_eqb (suc n) 0 (λ e. omega (arith, e)) in cc

pub control_of : (line : List ℕ) → false ≡ (length line == 0) → (get_or line 0 0 == 1) ≡ begins 1 (without_lf line)
unfolding without_lf
control_of [] some = absurd (cc)
control_of (b ∷ []) some = by_lf b (b == 10) refl
control_of (b ∷ c ∷ line) some = refl

pub no_control : (line : List ℕ) → true ≡ (length line == 0) → false ≡ begins 1 (without_lf line)
unfolding without_lf
no_control [] none = refl
no_control (b ∷ line) none = absurd (filled (length line) none)

-- ---- counting

-- ---- the last line

pub lacking_none : (bytes : List ℕ) → true ≡ (length bytes == 0) → [] ≡ lacking bytes
unfolding lacking
lacking_none [] none = refl
lacking_none (b ∷ bytes) none = absurd (filled (length bytes) none)

lacking_by : (bytes : List ℕ) → 0 < length bytes → cond (get_or bytes (length bytes - 1) 0 == 10) [] (10 ∷ [])
    ≡ lacking bytes
unfolding lacking
lacking_by [] some = absurd (omega (arith, some))
lacking_by (b ∷ []) some = refl
lacking_by (b ∷ c ∷ bytes) some =
    ap (λ n. cond (get_or (b ∷ c ∷ bytes) n 0 == 10) [] (10 ∷ [])) (at_last (length bytes)) ∙ lacking_by (c ∷ bytes)
    (omega arith)
  where
    at_last : (n : ℕ) → suc (suc n) - 1 ≡ suc (suc n - 1)
    at_last n = omega arith

some_bytes : (bytes : List ℕ) → false ≡ (length bytes == 0) → 0 < length bytes
some_bytes [] is = absurd (cc)
some_bytes (b ∷ bytes) is = omega arith

pub lacking_lf : (bytes : List ℕ) → false ≡ (length bytes == 0) → get_or bytes (length bytes - 1) 0 ≡ 10
    → [] ≡ lacking bytes
lacking_lf bytes some is =
    ap (λ b. cond (b == 10) [] (10 ∷ [])) (sym is) ∙ lacking_by bytes (some_bytes bytes some)

pub lacking_other : (bytes : List ℕ) → false ≡ (length bytes == 0) → (get_or bytes (length bytes - 1) 0 ≡ 10 → ⊥)
    → 10 ∷ [] ≡ lacking bytes
lacking_other bytes some other =
    ap (λ t. cond t [] (10 ∷ [])) (sym (ne_eqb (get_or bytes (length bytes - 1) 0) 10 other))
    ∙ lacking_by bytes (some_bytes bytes some)

-- ---- how many lines there are at most

lines_bytes : (lines : List (List ℕ)) (tail : List ℕ) → length lines + length tail ≤ length (bytes_of lines ++ tail)
lines_bytes [] tail = omega arith
lines_bytes (line ∷ lines) tail =
    let rest = lines_bytes lines tail in
    omega (
      arith,
      rest,
      length-append (ended line ++ bytes_of lines) tail,
      length-append (ended line) (bytes_of lines),
      length-append line (10 ∷ []),
      length-append (bytes_of lines) tail,
    )

closed_most : (lines : List (List ℕ)) (tail : List ℕ) → length (closed lines tail) ≤ length lines + length tail
closed_most lines [] = omega arith
closed_most lines (b ∷ tail) = omega (arith, length-append lines ((b ∷ tail) ∷ []))

-- no more than bytes
pub lines_most : (bytes : List ℕ) → length (text_of bytes) ≤ length bytes
lines_most bytes =
    let all = ap length (cut_joined bytes) in
    let most = lines_bytes (cut bytes).lines (cut bytes).tail in
    let closed_so = closed_most (cut bytes).lines (cut bytes).tail in
    omega (arith, all, most, closed_so)
