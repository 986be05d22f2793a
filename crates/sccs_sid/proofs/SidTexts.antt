-- A written SID is read back.
use Rattle.std.proofs.Common.{◌≡◌, ℕ, zero, suc, List, [], ◌∷◌, ◌++◌, Result, Ok, refl, sym, ap, ◌∙◌, arith, inl, lit≤}
use Rattle.std.proofs.Common.{lit<}
use Rattle.std.specs.Prelude.{decimal}
use Rattle.std.proofs.lemmas.List.{append-nil}
use Rattle.sccs_sid.specs.Reading.{number_at, byte_at}
use Rattle.sccs_sid.specs.Sid.{IsComponent, IsBranch, IsSid, numbers_after, numbers, sid_of_numbers, sid_by, sid_of}
use Rattle.sccs_sid.specs.Sid.{branch_text, sid_text}
use Rattle.sccs_sid.specs.declared.sids.Sid.{Sid}
use Rattle.sccs_sid.specs.declared.sids.SidFault.{SidFault}
use Rattle.sccs_sid.proofs.Decimals.{NoDigit, number_round_trip}

pub component_round_trip : (n : ℕ) (rest : List ℕ) → IsComponent n → NoDigit rest → number_at 4 (decimal n ++ rest) ≡ Ok
    (n, rest)
component_round_trip n rest is none = number_round_trip 4 n rest (lit< tt) (lit≤ tt) is.1 none

-- a number with a dot behind it
pub number_more : (most n : ℕ) (found rest : List ℕ) → IsComponent n → numbers_after (suc most) found
    (decimal n ++ (46 ∷ rest)) ≡ numbers_after most (found ++ n ∷ []) rest
unfolding numbers_after byte_at
number_more most n found rest is = rw (component_round_trip n (46 ∷ rest) is (inl (lit< tt))) refl

-- the last number
pub number_last : (most n : ℕ) (found : List ℕ) → IsComponent n → numbers_after (suc most) found (decimal n) ≡ Ok
    (found ++ n ∷ [])
unfolding numbers_after
number_last most n found is =
    let alone : number_at 4 (decimal n) ≡ Ok (n, []) = ap (number_at 4) (sym (append-nil (decimal n)))
    ∙ component_round_trip n [] is tt in rw alone refl

pub two_numbers : (r l : ℕ) → IsComponent r → IsComponent l → sid_of_numbers (r ∷ l ∷ []) ≡ Ok
    (record { release = r; level = l; branch = 0; sequence = 0 })
two_numbers zero l r-is l-is = absurd (omega arith)
two_numbers (suc r) zero r-is l-is = absurd (omega arith)
two_numbers (suc r) (suc l) r-is l-is = refl

pub four_numbers : (r l b s : ℕ) → IsComponent r → IsComponent l → IsComponent b → IsComponent s
    → sid_of_numbers (r ∷ l ∷ b ∷ s ∷ []) ≡ Ok (record { release = r; level = l; branch = b; sequence = s })
four_numbers zero l b s r-is l-is b-is s-is = absurd (omega arith)
four_numbers (suc r) zero b s r-is l-is b-is s-is = absurd (omega arith)
four_numbers (suc r) (suc l) zero s r-is l-is b-is s-is = absurd (omega arith)
four_numbers (suc r) (suc l) (suc b) zero r-is l-is b-is s-is = absurd (omega arith)
four_numbers (suc r) (suc l) (suc b) (suc s) r-is l-is b-is s-is = refl

-- the numbers of a SID
abbrev pub numbers_of : ℕ → ℕ → ℕ → ℕ → List ℕ
numbers_of r l zero s = r ∷ l ∷ []
numbers_of r l (suc b) s = r ∷ l ∷ suc b ∷ s ∷ []

pub text_numbers : (r l b s : ℕ) → IsComponent r → IsComponent l → IsBranch b s
    → numbers (decimal r ++ (46 ∷ decimal l ++ branch_text b s)) ≡ Ok (numbers_of r l b s)
text_numbers r l zero s r-is l-is is =
    number_more 3 r [] (decimal l ++ []) r-is ∙ (ap (numbers_after 3 (r ∷ [])) (append-nil (decimal l))
    ∙ number_last 2 l (r ∷ []) l-is)
text_numbers r l (suc b) s r-is l-is is =
    let rest : List ℕ = decimal (suc b) ++ (46 ∷ decimal s) in
    number_more 3 r [] (decimal l ++ (46 ∷ rest)) r-is
    ∙ (number_more 2 l (r ∷ []) rest l-is
    ∙ (number_more 1 (suc b) (r ∷ l ∷ []) (decimal s) (omega arith, is.0) ∙ number_last 0 s (r ∷ l ∷ suc b ∷ []) is.1))

sid_parts : (r l b s : ℕ) → IsComponent r → IsComponent l → IsBranch b s
    → sid_by (numbers (decimal r ++ (46 ∷ decimal l ++ branch_text b s))) ≡ Ok
    (record { release = r; level = l; branch = b; sequence = s })
sid_parts r l zero s r-is l-is is =
    let with : ℕ → Result Sid SidFault = λ n. Ok (record { release = r; level = l; branch = 0; sequence = n }) in
    ap sid_by (text_numbers r l zero s r-is l-is is) ∙ (two_numbers r l r-is l-is ∙ ap with (sym is))
sid_parts r l (suc b) s r-is l-is is =
    ap sid_by (text_numbers r l (suc b) s r-is l-is is) ∙ four_numbers r l (suc b) s r-is l-is (omega arith, is.0) is.1

pub sid_text_again : (sid : Sid) → IsSid sid → sid_of (sid_text sid) ≡ Ok sid
unfolding sid_of sid_text
sid_text_again sid is = sid_parts sid.release sid.level sid.branch sid.sequence is.release is.level is.branch
