-- Texts that are put one behind the other.
use Rattle.std.proofs.Common.{◌≡◌, ◌≢◌, ℕ, zero, suc, List, [], ◌∷◌, ◌++◌, refl, sym, ap, ◌∙◌, append_assoc}
use Rattle.std.specs.Prelude.{decimal}
use Rattle.std.proofs.lemmas.List.{append-nil}
use Rattle.sccs_sid.specs.Sid.{branch_text, sid_text}
use Rattle.sccs_sid.specs.declared.sids.Sid.{Sid}

-- a dot and a number behind a text
pub dot_put : (before dotted now x : List ℕ) (n : ℕ) → dotted ≡ before ++ (46 ∷ []) → now ≡ dotted ++ x → x ≡ decimal n
    → now ≡ before ++ (46 ∷ decimal n)
dot_put before dotted now x n dot number is =
    number ∙ (ap (λ text. text ++ x) dot ∙ (append_assoc before (46 ∷ []) x
    ∙ ap (λ digits. before ++ (46 ∷ digits)) is))

pub trunk_text : (sid : Sid) → sid.branch ≡ 0 → decimal sid.release ++ (46 ∷ decimal sid.level) ≡ sid_text sid
unfolding sid_text
trunk_text sid is = rw is (ap (λ level. decimal sid.release ++ (46 ∷ level)) (sym (append-nil (decimal sid.level))))

branch_some : (b s : ℕ) → b ≢ 0 → 46 ∷ decimal b ++ (46 ∷ decimal s) ≡ branch_text b s
branch_some zero s some = absurd (some refl)
branch_some (suc b) s some = refl

pub full_text : (sid : Sid) → sid.branch ≢ 0 → ((decimal sid.release ++ (46 ∷ decimal sid.level))
    ++ (46 ∷ decimal sid.branch)) ++ (46 ∷ decimal sid.sequence) ≡ sid_text sid
unfolding sid_text
full_text sid some =
    append_assoc (decimal sid.release ++ (46 ∷ decimal sid.level)) (46 ∷ decimal sid.branch) (46 ∷ decimal sid.sequence)
    ∙ append_assoc (decimal sid.release) (46 ∷ decimal sid.level) (46 ∷ decimal sid.branch
    ++ (46 ∷ decimal sid.sequence))
    ∙ ap (λ rest. decimal sid.release ++ (46 ∷ decimal sid.level ++ rest)) (branch_some sid.branch sid.sequence some)
