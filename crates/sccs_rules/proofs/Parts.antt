-- A text with commas, read piece by piece.
use Rattle.std.proofs.Common.{◌≡◌, ℕ, true, false, List, ◌++◌, append_assoc, append-nil, None, Some, refl, sym, ap, ◌∙◌}
use Rattle.sccs_sid.specs.Reading.{until, behind}
use Rattle.sccs_history.specs.FlagText.{is_release}
use Rattle.sccs_history.proofs.FlagPieces.{pieces_cut}
use Rattle.sccs_rules.specs.Forms.{are_joined}
use Rattle.sccs_rules.specs.Unlocked.{releases_in, releases_of}

-- ---- pieces

pub piece_fails : (bytes piece : List ℕ) → piece ≡ until 44 bytes → is_release piece ≡ false → are_joined bytes ≡ false
piece_fails bytes piece is fails = rw (pieces_cut bytes, ← is, fails) refl

pub piece_alone : (bytes piece : List ℕ) → piece ≡ until 44 bytes → is_release piece ≡ true → behind 44 bytes ≡ None
    → are_joined bytes ≡ true
piece_alone bytes piece is fits last = rw (pieces_cut bytes, ← is, fits, last) refl

pub piece_passes : (bytes piece more : List ℕ) → piece ≡ until 44 bytes → is_release piece ≡ true
    → behind 44 bytes ≡ Some more → are_joined bytes ≡ are_joined more
piece_passes bytes piece more is fits next = rw (pieces_cut bytes, ← is, fits, next) refl

pub last_releases : (text piece : List ℕ) → piece ≡ until 44 text → behind 44 text ≡ None
    → releases_of text ≡ releases_in piece
last_releases text piece is last = rw (pieces_cut text, ← is, last) (append-nil (releases_in piece))

pub next_releases : (text piece more : List ℕ) → piece ≡ until 44 text → behind 44 text ≡ Some more
    → releases_of text ≡ releases_in piece ++ releases_of more
next_releases text piece more is next = rw (pieces_cut text, ← is, next) refl

-- the same behind releases that were found
pub all_releases : (found found2 text piece : List ℕ) → found2 ≡ found ++ releases_in piece → piece ≡ until 44 text
    → behind 44 text ≡ None → found ++ releases_of text ≡ found2
all_releases found found2 text piece more is last = ap (λ l. found ++ l) (last_releases text piece is last) ∙ sym more

pub more_releases : (found found2 text piece rest : List ℕ) → found2 ≡ found ++ releases_in piece
    → piece ≡ until 44 text → behind 44 text ≡ Some rest → found2 ++ releases_of rest ≡ found ++ releases_of text
more_releases found found2 text piece rest more is next =
    ap (λ l. l ++ releases_of rest) more ∙ (append_assoc found (releases_in piece) (releases_of rest)
    ∙ ap (λ l. found ++ l) (sym (next_releases text piece rest is next)))
