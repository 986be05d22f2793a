-- The parts of a specification, one after the other.
use Rattle.std.proofs.Common.{◌≡◌, ℕ, zero, suc, ◌+◌, ◌-◌, ◌<◌, List, [], ◌∷◌, ◌++◌, length, drop, take, get_or, refl}
use Rattle.std.proofs.Common.{sym, ap, ◌∙◌, arith, append_assoc, append-nil, length-drop}
use Rattle.std.proofs.Math.Seq.{take-length}
use Rattle.sccs_prs.specs.DataKeywords.{found_part, data_parts, data_parts_at}
use Rattle.sccs_prs.specs.declared.keywords.Part.{Part}
use Rattle.sccs_prs.specs.declared.specifications.FoundPart.{FoundPart}

skipped : (n : ℕ) (bytes : List ℕ) → data_parts_at n bytes ≡ data_parts_at 0 (drop n bytes)
skipped zero bytes = refl
skipped (suc n) [] = refl
skipped (suc n) (b ∷ bytes) = skipped n bytes

pub rest_is : (spec : List ℕ) (n : ℕ) → take (length spec - n) (drop n spec) ≡ drop n spec
rest_is spec n = ap (λ k. take k (drop n spec)) (sym (length-drop n spec)) ∙ take-length (drop n spec)

-- the part at a place, and those behind it
part_at : (spec : List ℕ) (from : ℕ) → from < length spec → data_parts_at 0 (drop from spec)
    ≡ (found_part (get_or spec from 0) (drop (from + 1) spec)).part ∷ data_parts_at 0
    (drop (from + (1 + (found_part (get_or spec from 0) (drop (from + 1) spec)).behind)) spec)
part_at [] from below = absurd (omega arith)
part_at (b ∷ bytes) zero below =
    let f : FoundPart = found_part b bytes in
    let next : suc f.behind ≡ 0 + (1 + f.behind) = omega arith in
    ap (λ rest. f.part ∷ rest) (skipped f.behind bytes) ∙ ap (λ k. f.part ∷ data_parts_at 0 (drop k (b ∷ bytes))) next
part_at (b ∷ bytes) (suc from) below =
    let first : suc (from + 1) ≡ suc from + 1 = omega arith in
    let k : ℕ = (found_part (get_or bytes from 0) (drop (from + 1) bytes)).behind in
    let next : suc (from + (1 + k)) ≡ suc from + (1 + k) = omega arith in
    part_at bytes from (omega arith)
    ∙ ap (λ n. (found_part (get_or bytes from 0) (drop (from + 1) bytes)).part ∷ data_parts_at 0 (drop n (b ∷ bytes)))
    next
    ∙ ap (λ n. (found_part (get_or bytes from 0) (drop n (b ∷ bytes))).part ∷ data_parts_at 0
    (drop (suc from + (1 + (found_part (get_or bytes from 0) (drop n (b ∷ bytes))).behind)) (b ∷ bytes))) first

-- a turn of reading
pub turn_read : (spec : List ℕ) (read : List Part) (from : ℕ) (f : FoundPart) → from < length spec
    → f ≡ found_part (get_or spec from 0) (take (length spec - (from + 1)) (drop (from + 1) spec))
    → read ++ data_parts (drop from spec) ≡ data_parts spec
    → (read ++ f.part ∷ []) ++ data_parts (drop (from + (1 + f.behind)) spec) ≡ data_parts spec
unfolding data_parts
turn_read spec read from f below is same =
    let whole : f ≡ found_part (get_or spec from 0) (drop (from + 1) spec) = is ∙ ap (found_part (get_or spec from 0))
    (rest_is spec (from + 1)) in
    append_assoc read (f.part ∷ []) (data_parts_at 0 (drop (from + (1 + f.behind)) spec))
    ∙ (ap (λ rest. read ++ rest) (ap (λ (g : FoundPart). g.part ∷ data_parts_at 0 (drop (from + (1 + g.behind)) spec))
    whole ∙ sym (part_at spec from below)) ∙ same)

nothing : (spec : List ℕ) → drop (length spec) spec ≡ []
nothing [] = refl
nothing (b ∷ bytes) = nothing bytes

pub all_read : (spec : List ℕ) (read : List Part) (from : ℕ) → length spec ≡ from → read ++ data_parts (drop from spec)
    ≡ data_parts spec → read ≡ data_parts spec
unfolding data_parts
all_read spec read from ends same = sym (append-nil read) ∙ (ap (λ rest. read ++ rest) (sym (none spec from ends))
    ∙ same)
  where
    none : (spec : List ℕ) (from : ℕ) → length spec ≡ from → data_parts_at 0 (drop from spec) ≡ []
    none spec from ends = ap (data_parts_at 0) (ap (λ k. drop k spec) (sym ends) ∙ nothing spec)
