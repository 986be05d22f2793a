-- A list of releases, read piece by piece.
use Rattle.std.proofs.Common.{◌≡◌, ℕ, true, false, List, None, Some, refl}
use Rattle.sccs_sid.specs.Reading.{until, behind}
use Rattle.sccs_sid.specs.Words.{words}
use Rattle.sccs_history.proofs.FlagPieces.{pieces_cut}
use Rattle.sccs_flags.specs.FlagValues.{has_release, lists_release}

pub first_has : (bytes piece : List ℕ) (release : ℕ) → piece ≡ until 44 bytes → has_release (words piece) release ≡ true
    → lists_release bytes release ≡ true
first_has bytes piece release is there = rw (pieces_cut bytes, ← is, there) refl

pub last_lacks : (bytes piece : List ℕ) (release : ℕ) → piece ≡ until 44 bytes → has_release (words piece) release
    ≡ false → behind 44 bytes ≡ None → lists_release bytes release ≡ false
last_lacks bytes piece release is not_there last = rw (pieces_cut bytes, ← is, not_there, last) refl

pub first_lacks : (bytes piece more : List ℕ) (release : ℕ) → piece ≡ until 44 bytes → has_release (words piece) release
    ≡ false → behind 44 bytes ≡ Some more → lists_release bytes release ≡ lists_release more release
first_lacks bytes piece more release is not_there next = rw (pieces_cut bytes, ← is, not_there, next) refl
