-- What a statistics line as it is written says, part by part.
use Rattle.std.proofs.Common.{◌≡◌, ◌==◌, ℕ, suc, ◌<◌, true, List, [], ◌∷◌, ◌++◌, Some, length, refl, sym, ap, ◌∙◌}
use Rattle.std.proofs.Common.{arith, append-nil}
use Rattle.std.proofs.lemmas.Bool.{eqb-true}
use Rattle.sccs_tokens.specs.Tokens.{control, token}
use Rattle.sccs_tokens.specs.Written.{five}
use Rattle.sccs_tokens.specs.declared.line_tokens.LineToken.TheVariants.{Counts}
use Rattle.sccs_tokens.proofs.TokenLaws.{token_counts}

counts_token : (i d u : ℕ) → i < 100000 → d < 100000 → u < 100000
    → control 115 (32 ∷ (five i ++ (47 ∷ five d ++ (47 ∷ five u))) ++ []) ≡ Some (Counts i d u)
unfolding token
counts_token i d u si sd su = token_counts i d u si sd su

none_left : (rest : List ℕ) → (length rest == 0) ≡ true → rest ≡ []
none_left [] is = refl
none_left (b ∷ rest) is = absurd (omega (arith, eqb-true (suc (length rest)) 0 is))

-- a number of five digits in front of other bytes
abbrev pub Five : List ℕ → ℕ → List ℕ → Type 0
Five bytes n rest = (n < 100000) × (bytes ≡ five n ++ rest)

pub counts_are : (bytes word first second third fourth rest : List ℕ) (i d u : ℕ) → bytes ≡ 32 ∷ word
    → Five word i first → first ≡ 47 ∷ second → Five second d third → third ≡ 47 ∷ fourth → Five fourth u rest
    → (length rest == 0) ≡ true → Some (Counts i d u) ≡ control 115 bytes
counts_are bytes word first second third fourth rest i d u blank one slash two stroke three ends =
    let last : fourth ≡ five u = three.1 ∙ (ap (λ bs. five u ++ bs) (none_left rest ends) ∙ append-nil (five u)) in
    let second_on : second ≡ five d ++ (47 ∷ five u) = two.1 ∙ ap (λ bs. five d ++ bs) (stroke
    ∙ ap (λ bs. 47 ∷ bs) last) in
    let all : word ≡ five i ++ (47 ∷ five d ++ (47 ∷ five u)) = one.1 ∙ ap (λ bs. five i ++ bs) (slash
    ∙ ap (λ bs. 47 ∷ bs) second_on) in
    let line : 32 ∷ (five i ++ (47 ∷ five d ++ (47 ∷ five u))) ++ [] ≡ bytes =
    ap (λ bs. 32 ∷ bs) (append-nil (five i ++ (47 ∷ five d ++ (47 ∷ five u))) ∙ sym all) ∙ sym blank in
    sym (ap (control 115) (sym line) ∙ counts_token i d u one.0 two.0 three.0)
