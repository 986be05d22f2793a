-- How short bytes stand in an array: at its start, with zeros after them.
use Rattle.std.specs.Prelude.{◌≡◌, ℕ, ◌-◌, ◌≤◌, List, ◌++◌, length, take, drop, replicate}
use Rattle.std.proofs.Common.{ap, sym, ◌∙◌, arith}
use Rattle.std.proofs.lemmas.List.{take-append-drop, length-take}

-- The array is as long as said, and after the first len bytes it has zeros alone.
pub record IsPadded (room : ℕ) (bytes : List ℕ) (len : ℕ) : Type 0 where
  pub room_is : length bytes ≡ room
  pub within : len ≤ room
  pub padded : drop len bytes ≡ replicate (room - len) 0

-- bytes with zeros after them, as many as there is room for
abbrev pub padded_to : ℕ → List ℕ → List ℕ
padded_to room l = l ++ replicate (room - length l) 0

pub padded_length : (room : ℕ) (bytes : List ℕ) (len : ℕ) → IsPadded room bytes len → length (take len bytes) ≡ len
padded_length room bytes len h = omega (arith, length-take {A = ℕ}, h.room_is, h.within)

pub padded_bytes : (room : ℕ) (bytes : List ℕ) (len : ℕ) → IsPadded room bytes len → padded_to room (take len bytes)
    ≡ bytes
padded_bytes room bytes len h =
    ap (λ n. take len bytes ++ replicate (room - n) 0) (padded_length room bytes len h)
    ∙ (ap (λ rest. take len bytes ++ rest) (sym h.padded) ∙ take-append-drop len bytes)
