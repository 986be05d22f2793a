-- A word of eight bytes in front, and a blank behind it.
use Rattle.std.proofs.Common.{◌≡◌, ◌≢◌, ℕ, ◌-◌, ◌≤◌, List, [], ◌∷◌, length, take, drop, slice_index_or, sym, ap, ◌∙◌}
use Rattle.std.proofs.Common.{arith}
use Rattle.std.proofs.lemmas.List.{take_all}
use Rattle.sccs_sid.specs.Words.{words}
use Rattle.sccs_tokens.proofs.WordLaws.{word_first, words-blank}

-- four bytes, none of them a blank
abbrev pub NoBlanks : ℕ → ℕ → ℕ → ℕ → Type 0
NoBlanks a b c d = (a ≢ 32) × (b ≢ 32) × (c ≢ 32) × (d ≢ 32)

pub eight_first : (bytes : List ℕ) → 9 ≤ length bytes → NoBlanks (slice_index_or bytes 0 0) (slice_index_or bytes 1 0)
    (slice_index_or bytes 2 0) (slice_index_or bytes 3 0)
    → NoBlanks (slice_index_or bytes 4 0) (slice_index_or bytes 5 0) (slice_index_or bytes 6 0)
    (slice_index_or bytes 7 0) → slice_index_or bytes 8 0 ≡ 32
    → words bytes ≡ take 8 bytes ∷ words (take (length bytes - 9) (drop 9 bytes))
eight_first [] long first second blank = absurd (omega arith)
eight_first (a ∷ []) long first second blank = absurd (omega arith)
eight_first (a ∷ b ∷ []) long first second blank = absurd (omega arith)
eight_first (a ∷ b ∷ c ∷ []) long first second blank = absurd (omega arith)
eight_first (a ∷ b ∷ c ∷ d ∷ []) long first second blank = absurd (omega arith)
eight_first (a ∷ b ∷ c ∷ d ∷ e ∷ []) long first second blank = absurd (omega arith)
eight_first (a ∷ b ∷ c ∷ d ∷ e ∷ f ∷ []) long first second blank = absurd (omega arith)
eight_first (a ∷ b ∷ c ∷ d ∷ e ∷ f ∷ g ∷ []) long first second blank = absurd (omega arith)
eight_first (a ∷ b ∷ c ∷ d ∷ e ∷ f ∷ g ∷ h ∷ []) long first second blank = absurd (omega arith)
eight_first (a ∷ b ∷ c ∷ d ∷ e ∷ f ∷ g ∷ h ∷ i ∷ rest) long first second blank =
    let word = a ∷ b ∷ c ∷ d ∷ e ∷ f ∷ g ∷ h ∷ [] in
    let left = length (a ∷ b ∷ c ∷ d ∷ e ∷ f ∷ g ∷ h ∷ i ∷ rest) - 9 in
    word_first word (i ∷ rest)
    (first.0, (first.1, (first.2, (first.3, (second.0, (second.1, (second.2, (second.3, tt)))))))) blank
    ∙ ap (λ ws. word ∷ ws) (ap (λ n. words (n ∷ rest)) blank
    ∙ (words-blank rest ∙ ap words (sym (take_all left rest (omega arith)))))
