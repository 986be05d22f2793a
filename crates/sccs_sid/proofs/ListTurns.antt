-- One turn of reading a list of SIDs.
use Rattle.std.proofs.Common.{◌≡◌, ℕ, suc, ◌+◌, ◌-◌, ◌<◌, ◌≤◌, List, [], ◌∷◌, ◌++◌, length, None, Some, Result, Ok, Err}
use Rattle.std.proofs.Common.{refl, sym, ap, arith, append_assoc, subst}
use Rattle.std.specs.List.{All}
use Rattle.std.proofs.lemmas.List.Elements.{All-push}
use Rattle.sccs_sid.specs.Reading.{◌>>=◌}
use Rattle.sccs_sid.specs.SidLists.{IsRange, piece_at, ranges_of, placed, list_of}
use Rattle.sccs_sid.specs.declared.sid_lists.Range.{Range}

-- ranges that were read, and those that are still to be
abbrev pub prefix : List Range → Result (List Range) ℕ → Result (List Range) ℕ
prefix before (Ok more) = Ok (before ++ more)
prefix before (Err left) = Err left

abbrev pub to_read : List ℕ → List Range → ℕ → List ℕ → Result (List Range) ℕ
to_read bytes before turn rest = placed bytes (prefix before (ranges_of (length bytes + 1 - turn) rest))

-- the fuel of a turn
fuel : (n turn : ℕ) → turn < n + 1 → n + 1 - turn ≡ suc (n + 1 - (turn + 1))
fuel n turn low = omega arith

prefix_push : (before : List Range) (range : Range) (more : Result (List Range) ℕ)
    → prefix before (more >>= λ ranges. Ok (range ∷ ranges)) ≡ prefix (before ++ range ∷ []) more
prefix_push before range (Ok ranges) = ap Ok (sym (append_assoc before (range ∷ []) ranges))
prefix_push before range (Err left) = refl

pub goes_on : (bytes : List ℕ) (before : List Range) (turn : ℕ) (rest : List ℕ) (range : Range) (more : List ℕ)
    → turn < length bytes + 1 → piece_at rest ≡ Ok (range, Some more) → to_read bytes before turn rest ≡ to_read bytes
    (before ++ range ∷ []) (turn + 1) more
unfolding ranges_of
goes_on bytes before turn rest range more low is =
    rw (fuel (length bytes) turn low, is)
    (ap (placed bytes) (prefix_push before range (ranges_of (length bytes + 1 - (turn + 1)) more)))

pub is_last : (bytes : List ℕ) (before : List Range) (turn : ℕ) (rest : List ℕ) (range : Range)
    → turn < length bytes + 1 → piece_at rest ≡ Ok (range, None) → to_read bytes before turn rest ≡ Ok
    (before ++ range ∷ [])
unfolding ranges_of
is_last bytes before turn rest range low is = rw (fuel (length bytes) turn low, is) refl

pub fails : (bytes : List ℕ) (before : List Range) (turn : ℕ) (rest : List ℕ) (left : ℕ) → turn < length bytes + 1
    → piece_at rest ≡ Err left → to_read bytes before turn rest ≡ Err (length bytes + 1 - left)
unfolding ranges_of
fails bytes before turn rest left low is = rw (fuel (length bytes) turn low, is) refl

pub too_many : (bytes : List ℕ) (before : List Range) (turn : ℕ) (rest : List ℕ) → length bytes + 1 ≤ turn
    → to_read bytes before turn rest ≡ Err (length bytes + 1 - length rest)
unfolding ranges_of
too_many bytes before turn rest high = let none : length bytes + 1 - turn ≡ 0 = omega arith in rw none refl

prefix_none : (more : Result (List Range) ℕ) → prefix [] more ≡ more
prefix_none (Ok ranges) = refl
prefix_none (Err left) = refl

pub starts : (bytes : List ℕ) (before : List Range) → before ≡ [] → to_read bytes before 0 bytes ≡ list_of bytes
unfolding list_of
starts bytes before none =
    let all : length bytes + 1 - 0 ≡ length bytes + 1 = omega arith in
    rw (none, all) (ap (placed bytes) (prefix_none (ranges_of (length bytes + 1) bytes)))

-- one more range that is one
pub valid_push : (before now : List Range) (range : Range) → now ≡ before ++ range ∷ [] → All IsRange before
    → IsRange range → All IsRange now
valid_push before now range is valid here = subst (All IsRange) (sym is) (All-push IsRange before range valid here)

pub valid_none : (now : List Range) → now ≡ [] → All IsRange now
valid_none now none = subst (All IsRange) (sym none) (λ k d low. absurd (omega arith))
