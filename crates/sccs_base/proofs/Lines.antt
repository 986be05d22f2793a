-- The lines that bstr gives, each without its LF, are those of the text.
use Rattle.std.proofs.Common.{◌≡◌, ◌≢◌, ℕ, zero, suc, ◌-◌, ◌<◌, ◌==◌, true, false, cond, List, [], ◌∷◌, ◌++◌, length}
use Rattle.std.proofs.Common.{take, drop, map, get_or, All, inl, inr, refl, sym, ap, subst, ◌∙◌, arith, eq-eqb}
use Rattle.std.proofs.lemmas.Bool.{ne_eqb}
use Rattle.std.proofs.lemmas.Bool.Decides.{eqb_tells}
use Rattle.std.proofs.Math.Seq.{drop-append_seam}
use Rattle.std.proofs.lemmas.List.Elements.{All-cons, All-drop}
use Rattle.bstr.specs.Text.{line_len, lines_of}
use Rattle.bstr.proofs.lemmas.LineLemmas.{line_len-bounds, lines-nil, lines-step}
use Rattle.sccs_base.specs.Cut.{Cut, HasNoLf, cut, before, closed, text_of, without_lf}
use Rattle.sccs_base.proofs.Cuts.{cut-cons, closed-cons, text-nil}

-- a byte more in front of the first line
abbrev longer_first : ℕ → List (List ℕ) → List (List ℕ)
longer_first b [] = (b ∷ []) ∷ []
longer_first b (line ∷ lines) = (b ∷ line) ∷ lines

longer_closed : (b : ℕ) (lines : List (List ℕ)) (tail : List ℕ)
    → closed (before false b (record { lines = lines; tail = tail })).lines
    (before false b (record { lines = lines; tail = tail })).tail ≡ longer_first b (closed lines tail)
longer_closed b [] [] = refl
longer_closed b [] (t ∷ tail) = refl
longer_closed b (line ∷ lines) [] = refl
longer_closed b (line ∷ lines) (t ∷ tail) = refl

text_lf : (b : ℕ) (bytes : List ℕ) → (b == 10) ≡ true → text_of (b ∷ bytes) ≡ [] ∷ text_of bytes
text_lf b bytes is =
    ap (λ (c : Cut). closed c.lines c.tail) (cut-cons b bytes ∙ ap (λ test. before test b (cut bytes)) is)
    ∙ closed-cons [] (cut bytes).lines (cut bytes).tail

text_more : (b : ℕ) (bytes : List ℕ) → (b == 10) ≡ false → text_of (b ∷ bytes) ≡ longer_first b (text_of bytes)
text_more b bytes other =
    ap (λ (c : Cut). closed c.lines c.tail) (cut-cons b bytes ∙ ap (λ test. before test b (cut bytes)) other)
    ∙ longer_closed b (cut bytes).lines (cut bytes).tail

lines_lf : (b : ℕ) (bytes : List ℕ) → (b == 10) ≡ true → lines_of (b ∷ bytes) ≡ (b ∷ []) ∷ lines_of bytes
unfolding line_len
lines_lf b bytes is =
    lines-step (b ∷ bytes) (omega arith)
    ∙ ap (λ test. take (cond test 1 (suc (line_len bytes))) (b ∷ bytes) ∷ lines_of
    (drop (cond test 1 (suc (line_len bytes))) (b ∷ bytes))) is

lines_other : (b : ℕ) (bytes : List ℕ) → (b == 10) ≡ false → lines_of (b ∷ bytes) ≡ (b ∷ take (line_len bytes) bytes)
    ∷ lines_of (drop (line_len bytes) bytes)
unfolding line_len
lines_other b bytes other =
    lines-step (b ∷ bytes) (omega arith)
    ∙ ap (λ test. take (cond test 1 (suc (line_len bytes))) (b ∷ bytes) ∷ lines_of
    (drop (cond test 1 (suc (line_len bytes))) (b ∷ bytes))) other

kept_first : (b : ℕ) (n : ℕ) (c : ℕ) (rest : List ℕ) → 0 < n → without_lf (b ∷ take n (c ∷ rest)) ≡ b ∷ without_lf
    (take n (c ∷ rest))
unfolding without_lf
kept_first b zero c rest some = absurd (omega arith)
kept_first b (suc n) c rest some = refl

alone : (b : ℕ) → (b == 10) ≡ false → without_lf (b ∷ []) ≡ b ∷ []
unfolding without_lf
alone b other = rw other refl

lf_alone : (b : ℕ) → (b == 10) ≡ true → without_lf (b ∷ []) ≡ []
unfolding without_lf
lf_alone b is = rw is refl

lines_more : (b : ℕ) (bytes : List ℕ) → (b == 10) ≡ false → map without_lf (lines_of (b ∷ bytes)) ≡ longer_first b
    (map without_lf (lines_of bytes))
unfolding line_len
lines_more b [] other =
    ap (map without_lf) (lines_other b [] other)
    ∙ (ap (λ (rest : List (List ℕ)). without_lf (b ∷ []) ∷ map without_lf rest) lines-nil
    ∙ (ap (λ (line : List ℕ). line ∷ []) (alone b other)
    ∙ ap (λ (ls : List (List ℕ)). longer_first b (map without_lf ls)) (sym lines-nil)))
lines_more b (c ∷ rest) other =
    let n : ℕ = line_len (c ∷ rest) in
    let some : 0 < n = (line_len-bounds (c ∷ rest) (omega arith)).0 in
    ap (map without_lf) (lines_other b (c ∷ rest) other)
    ∙ (ap (λ (line : List ℕ). line ∷ map without_lf (lines_of (drop n (c ∷ rest)))) (kept_first b n c rest some)
    ∙ ap (λ (ls : List (List ℕ)). longer_first b (map without_lf ls)) (sym (lines-step (c ∷ rest) (omega arith))))

-- the lines of bstr, each without its LF
pub lines_text : (bytes : List ℕ) → map without_lf (lines_of bytes) ≡ text_of bytes
lines_text [] = ap (map without_lf) lines-nil ∙ sym text-nil
lines_text (b ∷ bytes) =
    elim (eqb_tells b 10) [
      | inl is ↦ ap (map without_lf) (lines_lf b bytes is.0)
          ∙ (ap (λ (line : List ℕ). line ∷ map without_lf (lines_of bytes)) (lf_alone b is.0)
          ∙ (ap (λ (ls : List (List ℕ)). [] ∷ ls) (lines_text bytes) ∙ sym (text_lf b bytes is.0)))
      | inr other ↦ lines_more b bytes other.0 ∙ (ap (longer_first b) (lines_text bytes)
          ∙ sym (text_more b bytes other.0))
    ]

fit_longer : (b : ℕ) (lines : List (List ℕ)) → b ≢ 10 → All HasNoLf lines → All HasNoLf (longer_first b lines)
fit_longer b [] other fit = All-cons HasNoLf (b ∷ []) [] (All-cons (λ c. c ≢ 10) b [] other
    (λ k d low. absurd (omega arith))) fit
fit_longer b (line ∷ lines) other fit =
    All-cons HasNoLf (b ∷ line) lines (All-cons (λ c. c ≢ 10) b line other (fit 0 [] (omega arith)))
    (λ k d low. fit (suc k) d (omega arith))

none_fit : (bytes : List ℕ) → bytes ≡ [] → HasNoLf bytes
none_fit bytes none k d low = absurd (omega (arith, ap length none))

-- no line of a text has an LF
pub text_fit : (bytes : List ℕ) → All HasNoLf (text_of bytes)
text_fit [] = subst (All HasNoLf) (sym text-nil) (λ k d low. absurd (omega arith))
text_fit (b ∷ bytes) =
    elim (eqb_tells b 10) [
      | inl is ↦ subst (All HasNoLf) (sym (text_lf b bytes is.0)) (All-cons HasNoLf [] (text_of bytes)
          (none_fit [] refl) (text_fit bytes))
      | inr other ↦ subst (All HasNoLf) (sym (text_more b bytes other.0)) (fit_longer b (text_of bytes) other.1
          (text_fit bytes))
    ]

-- a line that stands between others of a text has no LF
pub next_fit : (before : List (List ℕ)) (line : List ℕ) (others : List (List ℕ)) (bytes : List ℕ)
    → before ++ line ∷ others ≡ text_of bytes → HasNoLf line
next_fit before line others bytes is =
    let rest : All HasNoLf (line ∷ others) =
    subst (All HasNoLf) (drop-append_seam before (line ∷ others)) (All-drop HasNoLf (length before)
    (before ++ line ∷ others) (subst (All HasNoLf) (sym is) (text_fit bytes))) in
    rest 0 [] (omega arith)

last_later : (b c : ℕ) (line : List ℕ) → length (b ∷ c ∷ line) - 1 ≡ suc (length (c ∷ line) - 1)
last_later b c line = omega arith

pub lf_off : (line : List ℕ) → 0 < length line → get_or line (length line - 1) 0 ≡ 10
    → without_lf line ≡ take (length line - 1) line
unfolding without_lf
lf_off [] some is = absurd (omega arith)
lf_off (b ∷ []) some is = rw (eq-eqb b 10 is) refl
lf_off (b ∷ c ∷ line) some is =
    let last = last_later b c line in
    ap (λ (front : List ℕ). b ∷ front) (lf_off (c ∷ line) (omega arith)
    (subst (λ k. get_or (b ∷ c ∷ line) k 0 ≡ 10) last is))
    ∙ sym (ap (λ k. take k (b ∷ c ∷ line)) last)

pub no_lf_off : (line : List ℕ) → (0 < length line → get_or line (length line - 1) 0 ≢ 10) → without_lf line ≡ line
unfolding without_lf
no_lf_off [] other = refl
no_lf_off (b ∷ []) other = rw (ne_eqb b 10 (other (omega arith))) refl
no_lf_off (b ∷ c ∷ line) other =
    ap (λ (front : List ℕ). b ∷ front) (no_lf_off (c ∷ line) (λ some. subst (λ k. get_or (b ∷ c ∷ line) k 0 ≢ 10)
    (last_later b c line) (other (omega arith))))
