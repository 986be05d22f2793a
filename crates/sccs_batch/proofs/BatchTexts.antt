-- The entries of lines that are passed over.
use Rattle.std.proofs.Common.{◌≡◌, ℕ, zero, suc, ◌+◌, ◌≤◌, List, [], ◌∷◌, length, drop, refl, ap, ◌∙◌, arith}
use Rattle.sccs_batch.specs.BatchText.{batch_from}

pub from_skip : (skip number : ℕ) (lines : List (List ℕ)) → skip ≤ length lines → batch_from skip number lines
    ≡ batch_from 0 (number + skip) (drop skip lines)
from_skip zero number [] low = refl
from_skip zero number (line ∷ lines) low = let same : number ≡ number + 0 = omega arith in
    ap (λ n. batch_from 0 n (line ∷ lines)) same
from_skip (suc skip) number [] low = absurd (omega (arith, low))
from_skip (suc skip) number (line ∷ lines) low =
    from_skip skip (number + 1) lines (omega (arith, low)) ∙ (let same : number + 1 + skip ≡ number + suc skip =
    omega arith in ap (λ n. batch_from 0 n (drop skip lines)) same)
