-- A SID that is asked for, written, is read back.
use Rattle.std.proofs.Common.{◌≡◌, ℕ, zero, suc, ◌∷◌, [], ◌++◌, Ok, ap, refl, sym, ◌∙◌, arith}
use Rattle.std.specs.Prelude.{decimal}
use Rattle.sccs_sid.specs.Sid.{IsComponent, IsBranch, IsSid, numbers, branch_text, sid_text}
use Rattle.sccs_sid.specs.Spec.{IsSpec, spec_by, spec_of_numbers, spec_of, spec_text}
use Rattle.sccs_sid.specs.declared.sids.Sid.{Sid}
use Rattle.sccs_sid.specs.declared.sids.Spec.{Spec}
use Rattle.sccs_sid.specs.declared.sids.Spec.TheVariants.{Release, Branch, Full}
use Rattle.sccs_sid.proofs.SidTexts.{number_more, number_last, text_numbers}

one_number : (r : ℕ) → IsComponent r → spec_of_numbers (r ∷ []) ≡ Ok (Release r)
one_number zero is = absurd (omega arith)
one_number (suc r) is = refl

three_numbers : (r l b : ℕ) → IsComponent r → IsComponent l → IsComponent b → spec_of_numbers (r ∷ l ∷ b ∷ []) ≡ Ok
    (Branch r l b)
three_numbers zero l b r-is l-is b-is = absurd (omega arith)
three_numbers (suc r) zero b r-is l-is b-is = absurd (omega arith)
three_numbers (suc r) (suc l) zero r-is l-is b-is = absurd (omega arith)
three_numbers (suc r) (suc l) (suc b) r-is l-is b-is = refl

two_spec : (r l : ℕ) → IsComponent r → IsComponent l → spec_of_numbers (r ∷ l ∷ []) ≡ Ok
    (Full (record { release = r; level = l; branch = 0; sequence = 0 }))
two_spec zero l r-is l-is = absurd (omega arith)
two_spec (suc r) zero r-is l-is = absurd (omega arith)
two_spec (suc r) (suc l) r-is l-is = refl

four_spec : (r l b s : ℕ) → IsComponent r → IsComponent l → IsComponent b → IsComponent s
    → spec_of_numbers (r ∷ l ∷ b ∷ s ∷ []) ≡ Ok (Full (record { release = r; level = l; branch = b; sequence = s }))
four_spec zero l b s r-is l-is b-is s-is = absurd (omega arith)
four_spec (suc r) zero b s r-is l-is b-is s-is = absurd (omega arith)
four_spec (suc r) (suc l) zero s r-is l-is b-is s-is = absurd (omega arith)
four_spec (suc r) (suc l) (suc b) zero r-is l-is b-is s-is = absurd (omega arith)
four_spec (suc r) (suc l) (suc b) (suc s) r-is l-is b-is s-is = refl

whole_parts : (r l b s : ℕ) → IsComponent r → IsComponent l → IsBranch b s
    → spec_by (numbers (decimal r ++ (46 ∷ decimal l ++ branch_text b s))) ≡ Ok
    (Full (record { release = r; level = l; branch = b; sequence = s }))
whole_parts r l zero s r-is l-is is =
    ap spec_by (text_numbers r l zero s r-is l-is is)
    ∙ (two_spec r l r-is l-is ∙ ap (λ n. Ok (Full (record { release = r; level = l; branch = 0; sequence = n })))
    (sym is))
whole_parts r l (suc b) s r-is l-is is =
    ap spec_by (text_numbers r l (suc b) s r-is l-is is) ∙ four_spec r l (suc b) s r-is l-is (omega arith, is.0) is.1

whole_read : (sid : Sid) → IsSid sid → spec_of (sid_text sid) ≡ Ok (Full sid)
unfolding spec_of sid_text
whole_read sid is = whole_parts sid.release sid.level sid.branch sid.sequence is.release is.level is.branch

pub spec_text_read : (spec : Spec) → IsSpec spec → spec_of (spec_text spec) ≡ Ok spec
unfolding spec_of spec_text
spec_text_read (Release r) is = ap spec_by (number_last 3 r [] is) ∙ one_number r is
spec_text_read (Branch r l b) is =
    ap spec_by (number_more 3 r [] _ is.0 ∙ (number_more 2 l (r ∷ []) (decimal b) is.1
    ∙ number_last 1 b (r ∷ l ∷ []) is.2)) ∙ three_numbers r l b is.0 is.1 is.2
spec_text_read (Full sid) is = whole_read sid is
