-- Bytes cut at LF, by the first line.
use Rattle.std.proofs.Common.{◌≡◌, ℕ, ◌==◌, ◌⊎◌, inl, inr, true, false, List, [], ◌∷◌, None, Some, refl, ap, ◌∙◌}
use Rattle.std.proofs.lemmas.Bool.{cases_Bool}
use Rattle.sccs_base.specs.Cut.{Cut, cut, longer}
use Rattle.sccs_base.proofs.Cuts.{cut-cons, with_line}
use Rattle.sccs_sid.specs.Reading.{until, behind}

same_rest : (a c : List ℕ) → Some a ≡ Some c → a ≡ c
same_rest a c e = cc

some_none : (l : List ℕ) → Some l ≡ None → ⊥
some_none l e = cc

cut_by : (b : ℕ) (bytes more : List ℕ) → (b == 10 ≡ true) ⊎ (b == 10 ≡ false) → behind 10 (b ∷ bytes) ≡ Some more
    → (behind 10 bytes ≡ Some more → cut bytes ≡ with_line (until 10 bytes) (cut more)) → cut (b ∷ bytes) ≡ with_line
    (until 10 (b ∷ bytes)) (cut more)
unfolding until behind
cut_by b bytes more (inl is) found rest = cut-cons b bytes
    ∙ rw is (ap (λ l. with_line [] (cut l)) (same_rest bytes more (rw is at found)))
cut_by b bytes more (inr other) found rest =
    cut-cons b bytes ∙ rw other (ap (λ (c : Cut). longer b c.lines c.tail) (rest (rw other at found)))

-- where a first line ends
pub cut_first : (bytes more : List ℕ) → behind 10 bytes ≡ Some more → cut bytes ≡ with_line (until 10 bytes) (cut more)
unfolding behind
cut_first [] more found = cc
cut_first (b ∷ bytes) more found = cut_by b bytes more (cases_Bool (b == 10)) found (cut_first bytes more)

tail_by : (b : ℕ) (bytes : List ℕ) → (b == 10 ≡ true) ⊎ (b == 10 ≡ false) → behind 10 (b ∷ bytes) ≡ None
    → (behind 10 bytes ≡ None → cut bytes ≡ record { lines = []; tail = bytes })
    → cut (b ∷ bytes) ≡ record { lines = []; tail = b ∷ bytes }
unfolding behind
tail_by b bytes (inl is) none rest = absurd (some_none bytes (rw is at none))
tail_by b bytes (inr other) none rest =
    cut-cons b bytes ∙ rw other (ap (λ (c : Cut). longer b c.lines c.tail) (rest (rw other at none)))

-- where no line ends
pub cut_none : (bytes : List ℕ) → behind 10 bytes ≡ None → cut bytes ≡ record { lines = []; tail = bytes }
unfolding cut behind
cut_none [] none = refl
cut_none (b ∷ bytes) none = tail_by b bytes (cases_Bool (b == 10)) none (cut_none bytes)
