-- A list of releases, read piece by piece and word by word.
use Rattle.std.proofs.Common.{◌≡◌, ℕ, true, false, List, None, Some, refl}
use Rattle.sccs_sid.specs.Reading.{until, behind}
use Rattle.sccs_history.specs.FlagText.{are_spaced, are_releases}
use Rattle.sccs_history.proofs.FlagPieces.{pieces_cut}

-- the first piece decides, or those behind it
pub first_fails : (bytes piece : List ℕ) → piece ≡ until 44 bytes → are_spaced piece ≡ false
    → are_releases bytes ≡ false
first_fails bytes piece is fails = rw (pieces_cut bytes, ← is, fails) refl

pub first_alone : (bytes piece : List ℕ) → piece ≡ until 44 bytes → are_spaced piece ≡ true → behind 44 bytes ≡ None
    → are_releases bytes ≡ true
first_alone bytes piece is fits last = rw (pieces_cut bytes, ← is, fits, last) refl

pub first_passes : (bytes piece more : List ℕ) → piece ≡ until 44 bytes → are_spaced piece ≡ true
    → behind 44 bytes ≡ Some more → are_releases bytes ≡ are_releases more
first_passes bytes piece more is fits next = rw (pieces_cut bytes, ← is, fits, next) refl
