-- Bytes cut at LF: by the first line, and put together again.
use Rattle.std.proofs.Common.{◌≡◌, ℕ, ◌==◌, Bool, true, false, not, List, [], ◌∷◌, ◌++◌, flat_map, refl, ap, ◌∙◌}
use Rattle.std.proofs.Common.{append_assoc}
use Rattle.std.specs.List.{list_all}
use Rattle.std.proofs.lemmas.Bool.{and_parts, eqb-true, not-true}
use Rattle.sccs_base.specs.Cut.{Cut, before, cut, longer}
use Rattle.sccs_base.proofs.Cuts.{cut-cons, with_line}
use Rattle.sccs_intents.specs.Written.{ended}

-- ---- a line that is written

abbrev pub is_other : ℕ → Bool
is_other b = not (b == 10)

pub not_false : (t : Bool) → not t ≡ false → t ≡ true
not_false true e = refl
not_false false e = cc

line_behind : (line rest : List ℕ) → list_all is_other line ≡ true → cut (line ++ 10 ∷ rest) ≡ with_line line (cut rest)
line_behind [] rest whole = cut-cons 10 rest
line_behind (b ∷ line) rest whole =
    let parts = and_parts (is_other b) (list_all is_other line) whole in
    cut-cons b (line ++ 10 ∷ rest)
    ∙ rw (not-true (b == 10) parts.0) (ap (λ (c : Cut). longer b c.lines c.tail) (line_behind line rest parts.1))

-- a line without LF, and its LF, in front of other bytes
pub cut_ended : (line rest : List ℕ) → list_all is_other line ≡ true → cut (ended line ++ rest) ≡ with_line line
    (cut rest)
cut_ended line rest whole = ap cut (append_assoc line (10 ∷ []) rest) ∙ line_behind line rest whole

-- ---- what is cut, put together again

abbrev joined : Cut → List ℕ
joined c = flat_map ended c.lines ++ c.tail

joined_other : (b : ℕ) (lines : List (List ℕ)) (tail : List ℕ) → b ∷ flat_map ended lines ++ tail ≡ joined
    (longer b lines tail)
joined_other b [] tail = refl
joined_other b (line ∷ lines) tail = refl

joined_by : (test : Bool) (b : ℕ) (c : Cut) → (b == 10) ≡ test → b ∷ joined c ≡ joined (before test b c)
joined_by true b c is = ap (λ n. n ∷ joined c) (eqb-true b 10 is)
joined_by false b c is = joined_other b c.lines c.tail

pub cut_joined : (bytes : List ℕ) → bytes ≡ flat_map ended (cut bytes).lines ++ (cut bytes).tail
unfolding cut
cut_joined [] = refl
cut_joined (b ∷ bytes) = ap (λ more. b ∷ more) (cut_joined bytes) ∙ joined_by (b == 10) b (cut bytes) refl
