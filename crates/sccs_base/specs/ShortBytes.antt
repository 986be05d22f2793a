-- How short bytes are seen: without the zeros after them.
use Rattle.std.specs.Prelude.{◌≡◌, ℕ, List, length, take}
use Rattle.std.proofs.Common.{ap, ◌∙◌}
use Rattle.sccs_base.specs.Padded.{IsPadded, padded_to, padded_length, padded_bytes}
use Rattle.sccs_base.specs.declared.short_bytes.ShortBytes.TheInside.{Inside}

abbrev of_fields : (room : ℕ) → List ℕ → ℕ → Inside room
of_fields room bytes len = record { bytes = bytes; len = len }

-- bytes as they stand in an array of that length
abbrev pub in_array : (room : ℕ) → List ℕ → Inside room
in_array room l = of_fields room (padded_to room l) (length l)

pub in_array_again : (room : ℕ) (b : Inside room) → IsPadded room b.bytes b.len → in_array room (take b.len b.bytes) ≡ b
in_array_again room b h =
    ap (λ bytes. of_fields room bytes (length (take b.len b.bytes))) (padded_bytes room b.bytes b.len h)
    ∙ ap (of_fields room b.bytes) (padded_length room b.bytes b.len h)
