-- PartialHeader of a line have no LF either.
use Rattle.std.proofs.Common.{◌≡◌, ◌≢◌, ℕ, ◌==◌, ◌⊎◌, inl, inr, true, false, List, [], ◌∷◌}
use Rattle.std.specs.List.{AllByRecursion}
use Rattle.std.proofs.lemmas.Bool.{cases_Bool}
use Rattle.std.proofs.lemmas.List.Elements.{recursion_from_All, All-from_recursion}
use Rattle.sccs_base.specs.Cut.{HasNoLf}
use Rattle.sccs_sid.specs.Words.{skip_blanks, kept, drop_blanks}

-- the same by recursion
abbrev pub NoLf : List ℕ → Type 0
NoLf bytes = AllByRecursion (λ b. b ≢ 10) bytes

skip_one : (b : ℕ) (bytes : List ℕ) → (b == 32 ≡ true) ⊎ (b == 32 ≡ false) → NoLf (b ∷ bytes) → NoLf (skip_blanks bytes)
    → NoLf (skip_blanks (b ∷ bytes))
unfolding skip_blanks
skip_one b bytes (inl is) none rest = rw is rest
skip_one b bytes (inr other) none rest = rw other none

pub no_lf_skip : (bytes : List ℕ) → NoLf bytes → NoLf (skip_blanks bytes)
unfolding skip_blanks
no_lf_skip [] none = tt
no_lf_skip (b ∷ bytes) none = skip_one b bytes (cases_Bool (b == 32)) none (no_lf_skip bytes none.1)

kept_last : (b : ℕ) → (b == 32 ≡ true) ⊎ (b == 32 ≡ false) → b ≢ 10 → NoLf (kept b [])
kept_last b (inl is) none = rw is tt
kept_last b (inr other) none = rw other (none, tt)

kept_one : (b : ℕ) (rest : List ℕ) → b ≢ 10 → NoLf rest → NoLf (kept b rest)
kept_one b [] none rest = kept_last b (cases_Bool (b == 32)) none
kept_one b (c ∷ bytes) none rest = (none, rest)

pub no_lf_drop : (bytes : List ℕ) → NoLf bytes → NoLf (drop_blanks bytes)
unfolding drop_blanks
no_lf_drop [] none = tt
no_lf_drop (b ∷ bytes) none = kept_one b (drop_blanks bytes) none.0 (no_lf_drop bytes none.1)

pub no_lf_trimmed : (bytes : List ℕ) → HasNoLf bytes → HasNoLf (drop_blanks (skip_blanks bytes))
no_lf_trimmed bytes none =
    All-from_recursion (λ b. b ≢ 10) (drop_blanks (skip_blanks bytes)) (no_lf_drop (skip_blanks bytes)
    (no_lf_skip bytes (recursion_from_All (λ b. b ≢ 10) bytes none)))

pub no_lf_skipped : (bytes : List ℕ) → HasNoLf bytes → HasNoLf (skip_blanks bytes)
no_lf_skipped bytes none =
    All-from_recursion (λ b. b ≢ 10) (skip_blanks bytes)
    (no_lf_skip bytes (recursion_from_All (λ b. b ≢ 10) bytes none))
