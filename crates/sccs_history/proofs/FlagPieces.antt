-- The pieces of a flag's text, one after the other.
use Rattle.std.proofs.Common.{◌≡◌, ◌≢◌, ℕ, ◌⊎◌, inl, inr, List, [], ◌∷◌, Option, Some, None, refl, ap}
use Rattle.std.proofs.lemmas.Bool.{cases_eq, eq-eqb, ne_eqb}
use Rattle.sccs_sid.specs.Reading.{until, behind}
use Rattle.sccs_history.specs.FlagText.{with_front, pieces}

-- the pieces of what stands behind a comma
abbrev pub more_pieces : Option (List ℕ) → List (List ℕ)
more_pieces None = []
more_pieces (Some bytes) = pieces bytes

comma_first : (b : ℕ) (bytes : List ℕ) → (b ≡ 44) ⊎ (b ≢ 44) → pieces bytes ≡ until 44 bytes ∷ more_pieces
    (behind 44 bytes) → pieces (b ∷ bytes) ≡ until 44 (b ∷ bytes) ∷ more_pieces (behind 44 (b ∷ bytes))
unfolding pieces until behind
comma_first b bytes (inl is) rest = rw (eq-eqb b 44 is) refl
comma_first b bytes (inr other) rest = rw (ne_eqb b 44 other) (ap (with_front b) rest)

-- the first piece, and those behind it
pub pieces_cut : (bytes : List ℕ) → pieces bytes ≡ until 44 bytes ∷ more_pieces (behind 44 bytes)
unfolding pieces until behind
pieces_cut [] = refl
pieces_cut (b ∷ bytes) = comma_first b bytes (cases_eq b 44) (pieces_cut bytes)
