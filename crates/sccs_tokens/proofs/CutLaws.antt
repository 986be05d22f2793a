-- Lines that are ended are cut again.
use Rattle.std.proofs.Common.{◌≡◌, ◌≢◌, ℕ, List, [], ◌∷◌, ◌++◌, refl, ap, ◌∙◌, append_assoc}
use Rattle.std.specs.List.{AllByRecursion}
use Rattle.std.proofs.lemmas.Bool.{ne_eqb}
use Rattle.std.proofs.lemmas.List.Elements.{recursion_from_All}
use Rattle.sccs_base.specs.Cut.{Cut, HasNoLf, cut, before, longer}
use Rattle.sccs_base.proofs.Cuts.{cut-cons, with_line}
use Rattle.sccs_tokens.specs.Written.{bytes_of}

cut_by : (line rest : List ℕ) → AllByRecursion (λ b. b ≢ 10) line → cut (line ++ 10 ∷ rest) ≡ with_line line (cut rest)
cut_by [] rest none = cut-cons 10 rest
cut_by (b ∷ line) rest none =
    cut-cons b (line ++ 10 ∷ rest)
    ∙ (ap (λ test. before test b (cut (line ++ 10 ∷ rest))) (ne_eqb b 10 none.0)
    ∙ ap (λ (c : Cut). longer b c.lines c.tail) (cut_by line rest none.1))

pub cut_line : (line rest : List ℕ) → HasNoLf line → cut (line ++ 10 ∷ rest)
    ≡ record { lines = line ∷ (cut rest).lines; tail = (cut rest).tail }
cut_line line rest none = cut_by line rest (recursion_from_All (λ b. b ≢ 10) line none)

cut_end : (line : List ℕ) → AllByRecursion (λ b. b ≢ 10) line → cut line ≡ record { lines = []; tail = line }
unfolding cut
cut_end [] none = refl
cut_end (b ∷ line) none =
    cut-cons b line ∙ (ap (λ test. before test b (cut line)) (ne_eqb b 10 none.0)
    ∙ ap (λ (c : Cut). longer b c.lines c.tail) (cut_end line none.1))

-- bytes without LF are behind the last one
pub cut_tail : (line : List ℕ) → HasNoLf line → cut line ≡ record { lines = []; tail = line }
cut_tail line none = cut_end line (recursion_from_All (λ b. b ≢ 10) line none)

cut_nothing : cut [] ≡ record { lines = []; tail = [] }
unfolding cut
cut_nothing = refl

-- the bytes of lines are those lines
pub cut-bytes_of : (lines : List (List ℕ)) → AllByRecursion HasNoLf lines
    → cut (bytes_of lines) ≡ record { lines = lines; tail = [] }
cut-bytes_of [] none = cut_nothing
cut-bytes_of (line ∷ lines) none =
    ap cut (append_assoc line (10 ∷ []) (bytes_of lines)) ∙ (cut_line line (bytes_of lines) none.0
    ∙ ap (with_line line) (cut-bytes_of lines none.1))
