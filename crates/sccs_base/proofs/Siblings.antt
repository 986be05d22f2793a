-- The name of an s-file with another first letter is a name.
use Rattle.std.proofs.Common.{◌≡◌, ℕ, zero, suc, ◌-◌, ◌<◌, ◌≤◌, List, [], ◌∷◌, length, take, drop, get_or, ap, lit<}
use Rattle.std.proofs.Common.{arith, length-drop}
use Rattle.std.specs.Str.{IsUtf8}
use Rattle.std.proofs.lemmas.Str.{IsUtf8-append, IsUtf8-drop, IsUtf8-from_ascii, IsCharBoundary-after_ascii}
use Rattle.std.proofs.lemmas.List.Elements.{All-cons, All-drop}
use Rattle.sccs_base.specs.Name.{IsName, IsSFileName, IsPlain, sibling}

pub sfile_long : (name : List ℕ) → IsSFileName name → 2 < length name
sfile_long name sfile = omega (arith, sfile.rest.some, length-drop 2 name)

head_is : (name : List ℕ) → take 2 name ≡ 115 ∷ 46 ∷ [] → get_or name 0 0 ≡ 115
head_is [] front = cc
head_is (b ∷ rest) front = ap (λ (bytes : List ℕ). get_or bytes 0 0) front

letter_plain : (letter : ℕ) → 97 ≤ letter → IsPlain letter
letter_plain letter low = (λ is. omega arith, (λ is. omega arith, λ is. omega arith))

letter_ascii : (letter : ℕ) → letter ≤ 122 → (i : ℕ) → get_or (letter ∷ []) i 0 < 128
letter_ascii letter high zero = omega arith
letter_ascii letter high (suc i) = lit< tt

letter_text : (letter : ℕ) → letter ≤ 122 → IsUtf8 (letter ∷ [])
letter_text letter high = IsUtf8-from_ascii (letter ∷ []) (letter_ascii letter high)

rest_text : (name : List ℕ) → IsName name → IsSFileName name → IsUtf8 (drop 1 name)
rest_text name is sfile =
    let first : get_or name 0 0 ≡ 115 = head_is name sfile.front in
    IsUtf8-drop name 1 is.text (IsCharBoundary-after_ascii name 0 is.text is.some (omega arith))

pub sibling_name : (name : List ℕ) (letter : ℕ) → IsName name → IsSFileName name → 97 ≤ letter → letter ≤ 122
    → IsName (sibling letter name)
sibling_name name letter is sfile low high =
    let long : 2 < length name = sfile_long name sfile in
    let rest : length (drop 1 name) ≡ length name - 1 = length-drop 1 name in
    record {
      some = omega arith;
      short = omega (arith, is.short);
      not_here = λ e. omega (arith, ap length e);
      not_above = λ e. omega (arith, ap length e);
      plain = All-cons IsPlain letter (drop 1 name) (letter_plain letter low) (All-drop IsPlain 1 name is.plain);
      text = IsUtf8-append (letter ∷ []) (drop 1 name) (letter_text letter high) (rest_text name is sfile);
    }
