-- The RCS file of a name has a name.
use Rattle.std.proofs.Common.{◌≡◌, ℕ, zero, suc, ◌+◌, ◌-◌, ◌<◌, ◌≤◌, List, [], ◌∷◌, ◌++◌, length, drop, All, true}
use Rattle.std.proofs.Common.{false, ap, subst, ◌∙◌, arith, length-append, length-drop}
use Rattle.std.specs.Str.{IsAscii}
use Rattle.std.proofs.lemmas.List.Elements.{All-append, All-cons}
use Rattle.std.proofs.lemmas.Str.{IsUtf8-append, IsUtf8-from_ascii}
use Rattle.sccs_base.specs.Name.{IsName, IsPlain, IsSFileName, is_name, name_decides}
use Rattle.sccs_rcs.specs.ImportStep.{rcs_file}

longer : (n : List ℕ) → IsSFileName n → length n < 251 → (3 ≤ length (rcs_file n)) × (length (rcs_file n) < 251)
longer n sfile low = (omega (arith, sizes, some), omega (arith, sizes, some, low))
  where
    sizes : length (rcs_file n) ≡ (length n - 2) + 2
    sizes = length-append (drop 2 n) (44 ∷ 118 ∷ []) ∙ ap (λ k. k + 2) (length-drop 2 n)

    some : 0 < length n - 2
    some = subst (λ k. 0 < k) (length-drop 2 n) sfile.rest.some

suffix_plain : All IsPlain (44 ∷ 118 ∷ [])
suffix_plain = All-cons IsPlain 44 (118 ∷ []) (
  (λ e. omega (arith, e)),
  (
    (λ e. omega (arith, e)),
    (λ e. omega (arith, e)),
  ),
) (All-cons IsPlain 118 [] (
  (λ e. omega (arith, e)),
  (
    (λ e. omega (arith, e)),
    (λ e. omega (arith, e)),
  ),
) (λ k d low. absurd (omega arith)))

suffix_ascii : IsAscii (44 ∷ 118 ∷ [])
suffix_ascii zero = omega arith
suffix_ascii (suc zero) = omega arith
suffix_ascii (suc (suc i)) = omega arith

is_rcs_name : (n : List ℕ) → IsSFileName n → length n < 251 → IsName (rcs_file n)
is_rcs_name n sfile low =
    let sizes = longer n sfile low in
    record {
      some = omega (arith, sizes.0);
      short = sizes.1;
      not_here = λ e. omega (arith, sizes.0, ap length e);
      not_above = λ e. omega (arith, sizes.0, ap length e);
      plain = All-append IsPlain (drop 2 n) (44 ∷ 118 ∷ []) sfile.rest.plain suffix_plain;
      text = IsUtf8-append (drop 2 n) (44 ∷ 118 ∷ []) sfile.rest.text (IsUtf8-from_ascii (44 ∷ 118 ∷ []) suffix_ascii);
    }

pub rcs_is_name : (n : List ℕ) → IsSFileName n → IsName n → is_name (rcs_file n) ≡ true
rcs_is_name n sfile name = (name_decides (rcs_file n)).1 (is_rcs_name n sfile name.short)

-- bytes that are those of the RCS file of a name are a name
pub not_none : (n rest b empty first second bytes : List ℕ) → IsSFileName n → IsName n → rest ≡ drop 2 n → b ≡ rest
    → empty ≡ [] → first ≡ empty ++ b → second ≡ first ++ 44 ∷ 118 ∷ [] → bytes ≡ second
    → false ≡ is_name bytes → ⊥
not_none n rest b empty first second bytes sfile name rest-is b-is empty-is first-is second-is bytes-is none =
    let front : first ≡ drop 2 n = first-is ∙ (ap (λ l. l ++ b) empty-is ∙ (b-is ∙ rest-is)) in
    let same : bytes ≡ rcs_file n = bytes-is ∙ (second-is ∙ ap (λ l. l ++ 44 ∷ 118 ∷ []) front) in
    let is : is_name bytes ≡ true = ap is_name same ∙ rcs_is_name n sfile name in
    cc
