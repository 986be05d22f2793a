-- The seven words of a delta line.
use Rattle.std.proofs.Common.{◌≡◌, ℕ, List, [], ◌∷◌, refl}
use Rattle.std.specs.Prelude.{option_map}
use Rattle.sccs_sid.specs.Words.{one}
use Rattle.sccs_tokens.specs.Tokens.{exactly_seven}

pub seven_last : (a b c d e f : List ℕ) (ws : List (List ℕ)) → exactly_seven (a ∷ b ∷ c ∷ d ∷ e ∷ f ∷ ws) ≡ option_map
    (λ g. a ∷ b ∷ c ∷ d ∷ e ∷ f ∷ g ∷ []) (one ws)
seven_last a b c d e f [] = refl
seven_last a b c d e f (g ∷ []) = refl
seven_last a b c d e f (g ∷ h ∷ ws) = refl
