-- A written list of SIDs is read back.
use Rattle.std.proofs.Common.{◌≡◌, ℕ, zero, suc, ◌+◌, ◌≤◌, ◌==◌, ◌&&◌, true, false, List, [], ◌∷◌, ◌++◌, length, None}
use Rattle.std.proofs.Common.{Some, Ok, refl, sym, ap, ◌∙◌, arith, append_assoc, length-append, inl, inr, lit<, All}
use Rattle.std.specs.Prelude.{decimal}
use Rattle.std.proofs.lemmas.Bool.{cases_Bool, ne_eqb, eqb-true}
use Rattle.std.proofs.lemmas.List.{append-nil}
use Rattle.std.specs.Char.{IsNotAsciiDigit}
use Rattle.sccs_sid.specs.Reading.{byte_at}
use Rattle.sccs_sid.specs.Sid.{IsComponent, IsBranch, IsSid, branch_text, sid_text}
use Rattle.sccs_sid.specs.SidLists.{IsRange, component_at, begins, branch_at, sid_at, last_at, range_at, piece_at}
use Rattle.sccs_sid.specs.SidLists.{ranges_of, placed, list_of, is_same_sid, range_text, list_text}
use Rattle.sccs_sid.specs.declared.sids.Sid.{Sid}
use Rattle.sccs_sid.specs.declared.sid_lists.Range.{Range}
use Rattle.sccs_sid.proofs.Decimals.{NoDigit}
use Rattle.sccs_sid.proofs.SidTexts.{component_round_trip}
use Rattle.sccs_base.proofs.Bools.{right_true, left_true}
use Rattle.sccs_sid.proofs.FourNumbers.{of_four}

-- no component and no dot goes on
abbrev EndsSid : List ℕ → Type 0
EndsSid [] = Unit {0}
EndsSid (b ∷ bytes) = IsNotAsciiDigit b × ((b == 46) ≡ false)

-- nor does a range
abbrev EndsRange : List ℕ → Type 0
EndsRange [] = Unit {0}
EndsRange (b ∷ bytes) = IsNotAsciiDigit b × ((b == 46) ≡ false) × ((b == 45) ≡ false)

ends_digits : (rest : List ℕ) → EndsSid rest → NoDigit rest
ends_digits [] ends = tt
ends_digits (b ∷ rest) ends = ends.0

ends_dots : (rest : List ℕ) → EndsSid rest → begins 46 rest ≡ false
ends_dots [] ends = refl
ends_dots (b ∷ rest) ends = ends.1

ends_sid : (rest : List ℕ) → EndsRange rest → EndsSid rest
ends_sid [] ends = tt
ends_sid (b ∷ rest) ends = (ends.0, ends.1)

ends_dashes : (rest : List ℕ) → EndsRange rest → begins 45 rest ≡ false
ends_dashes [] ends = refl
ends_dashes (b ∷ rest) ends = ends.2

component_read : (n : ℕ) (rest : List ℕ) → IsComponent n → NoDigit rest → component_at (decimal n ++ rest) ≡ Ok
    (n, rest)
unfolding component_at
component_read n rest is none = rw (component_round_trip n rest is none, ne_eqb n 0 (λ e. omega arith)) refl

dot_read : (rest : List ℕ) → byte_at 46 (46 ∷ rest) ≡ Ok rest
unfolding byte_at
dot_read rest = refl

dash_read : (rest : List ℕ) → byte_at 45 (45 ∷ rest) ≡ Ok rest
unfolding byte_at
dash_read rest = refl

comma_read : (rest : List ℕ) → byte_at 44 (44 ∷ rest) ≡ Ok rest
unfolding byte_at
comma_read rest = refl

branch_read : (r l b s : ℕ) (rest : List ℕ) → IsComponent b → IsComponent s → EndsSid rest
    → branch_at r l (46 ∷ (decimal b ++ (46 ∷ (decimal s ++ rest)))) ≡ Ok
    (record { release = r; level = l; branch = b; sequence = s }, rest)
unfolding branch_at
branch_read r l b s rest b-is s-is ends =
    rw (
      dot_read (decimal b ++ (46 ∷ (decimal s ++ rest))),
      component_read b (46 ∷ (decimal s ++ rest)) b-is
          (inl (lit< tt)),
      dot_read (decimal s ++ rest),
      component_read s rest s-is (ends_digits rest ends),
    ) refl

trunk_read : (r l : ℕ) (rest : List ℕ) → IsComponent r → IsComponent l → EndsSid rest
    → sid_at (decimal r ++ (46 ∷ (decimal l ++ rest))) ≡ Ok
    (record { release = r; level = l; branch = 0; sequence = 0 }, rest)
unfolding sid_at
trunk_read r l rest r-is l-is ends =
    rw (
      component_read r (46 ∷ (decimal l ++ rest)) r-is (inl (lit< tt)),
      dot_read (decimal l ++ rest),
      component_read l rest l-is (ends_digits rest ends),
      ends_dots rest ends,
    ) refl

full_read : (r l b s : ℕ) (rest : List ℕ) → IsComponent r → IsComponent l → IsComponent b → IsComponent s → EndsSid rest
    → sid_at (decimal r ++ (46 ∷ (decimal l ++ (46 ∷ (decimal b ++ (46 ∷ (decimal s ++ rest))))))) ≡ Ok
    (record { release = r; level = l; branch = b; sequence = s }, rest)
unfolding sid_at
full_read r l b s rest r-is l-is b-is s-is ends =
    rw (
      component_read r (46 ∷ (decimal l ++ (46 ∷ (decimal b ++ (46 ∷ (decimal s ++ rest)))))) r-is (inl (lit< tt)),
      dot_read (decimal l ++ (46 ∷ (decimal b ++ (46 ∷ (decimal s ++ rest))))),
      component_read l
          (46 ∷ (decimal b ++ (46 ∷ (decimal s ++ rest)))) l-is (inl (lit< tt)),
    ) (branch_read r l b s rest b-is s-is ends)

parts_read : (r l b s : ℕ) (rest : List ℕ) → IsComponent r → IsComponent l → IsBranch b s → EndsSid rest
    → sid_at ((decimal r ++ (46 ∷ decimal l ++ branch_text b s)) ++ rest) ≡ Ok
    (record { release = r; level = l; branch = b; sequence = s }, rest)
parts_read r l zero s rest r-is l-is is ends =
    ap sid_at (append_assoc (decimal r) (46 ∷ decimal l ++ []) rest
    ∙ ap (λ (front : List ℕ). decimal r ++ (46 ∷ (front ++ rest))) (append-nil (decimal l)))
    ∙ (trunk_read r l rest r-is l-is ends ∙ ap (λ n. Ok (
      record { release = r; level = l; branch = 0; sequence = n },
      rest,
    )) (sym is))
parts_read r l (suc b) s rest r-is l-is is ends =
    ap sid_at (append_assoc (decimal r) (46 ∷ decimal l ++ (46 ∷ decimal (suc b) ++ (46 ∷ decimal s))) rest
    ∙ ap (λ (more : List ℕ). decimal r ++ (46 ∷ more)) (append_assoc (decimal l)
    (46 ∷ decimal (suc b) ++ (46 ∷ decimal s)) rest)
    ∙ ap (λ (more : List ℕ). decimal r ++ (46 ∷ (decimal l ++ (46 ∷ more)))) (append_assoc (decimal (suc b))
    (46 ∷ decimal s) rest))
    ∙ full_read r l (suc b) s rest r-is l-is (omega arith, is.0) is.1 ends

sid_read : (sid : Sid) (rest : List ℕ) → IsSid sid → EndsSid rest → sid_at (sid_text sid ++ rest) ≡ Ok (sid, rest)
unfolding sid_text
sid_read sid rest is ends = parts_read sid.release sid.level sid.branch sid.sequence rest is.release is.level is.branch
    ends

same_true : (a b : Sid) → is_same_sid a b ≡ true → a ≡ b
same_true a b same =
    let three = left_true ((a.release == b.release) && (a.level == b.level) && (a.branch == b.branch))
    (a.sequence == b.sequence) same in
    let two = left_true ((a.release == b.release) && (a.level == b.level)) (a.branch == b.branch) three in
    let release : a.release ≡ b.release = eqb-true _ _ (left_true (a.release == b.release) (a.level == b.level) two) in
    let level : a.level ≡ b.level = eqb-true _ _ (right_true (a.release == b.release) (a.level == b.level) two) in
    let branch : a.branch ≡ b.branch = eqb-true _ _ (right_true ((a.release == b.release) && (a.level == b.level))
    (a.branch == b.branch) three) in
    let sequence : a.sequence ≡ b.sequence = eqb-true _ _ (right_true ((a.release == b.release) && (a.level == b.level)
    && (a.branch == b.branch)) (a.sequence == b.sequence) same) in
    ap (λ r. of_four r a.level a.branch a.sequence) release
    ∙ (ap (λ l. of_four b.release l a.branch a.sequence) level
    ∙ (ap (λ n. of_four b.release b.level n a.sequence) branch ∙ ap (of_four b.release b.level b.branch) sequence))

one_read : (first : Sid) (rest : List ℕ) → IsSid first → EndsRange rest → range_at (sid_text first ++ rest) ≡ Ok
    (record { first = first; last = first }, rest)
unfolding range_at
one_read first rest is ends = rw (sid_read first rest is (ends_sid rest ends), ends_dashes rest ends) refl

two_read : (first last : Sid) (rest : List ℕ) → IsSid first → IsSid last → EndsRange rest
    → range_at (sid_text first ++ (45 ∷ (sid_text last ++ rest))) ≡ Ok (record { first = first; last = last }, rest)
unfolding range_at last_at
two_read first last rest first_is last_is ends =
    rw (
      sid_read first (45 ∷ (sid_text last ++ rest)) first_is (inl (lit< tt), refl),
      dash_read (sid_text last ++ rest),
      sid_read last rest last_is (ends_sid rest ends),
    ) refl

range_read : (range : Range) (rest : List ℕ) → IsRange range → EndsRange rest → range_at (range_text range ++ rest) ≡ Ok
    (range, rest)
unfolding range_text
range_read range rest is ends =
    elim (cases_Bool (is_same_sid range.first range.last)) [
      | inl same ↦ rw same
          (ap (λ (front : List ℕ). range_at (front ++ rest)) (append-nil (sid_text range.first))
          ∙ (one_read range.first rest is.0 ends ∙ ap (λ last. Ok (record { first = range.first; last = last }, rest))
          (same_true range.first range.last same)))
      | inr other ↦ rw other
          (ap range_at (append_assoc (sid_text range.first) (45 ∷ sid_text range.last) rest)
          ∙ two_read range.first range.last rest is.0 is.1 ends)
    ]

last_piece : (range : Range) → IsRange range → piece_at (range_text range) ≡ Ok (range, None)
unfolding piece_at
last_piece range is = rw (ap range_at (sym (append-nil (range_text range))) ∙ range_read range [] is tt) refl

next_piece : (range : Range) (more : List ℕ) → IsRange range → piece_at (range_text range ++ (44 ∷ more)) ≡ Ok
    (range, Some more)
unfolding piece_at
next_piece range more is = rw (range_read range (44 ∷ more) is (inl (lit< tt), refl, refl), comma_read more) refl

-- fuel enough for the ranges
ranges_read : (fuel : ℕ) (range : Range) (ranges : List Range) → All IsRange (range ∷ ranges)
    → length (range ∷ ranges) ≤ fuel → ranges_of fuel (list_text (range ∷ ranges)) ≡ Ok (range ∷ ranges)
unfolding ranges_of list_text
ranges_read zero range ranges all enough = absurd (omega arith)
ranges_read (suc fuel) range [] all enough = rw (last_piece range (all 0 range (omega arith))) refl
ranges_read (suc fuel) range (next ∷ ranges) all enough =
    rw (
      next_piece range (list_text (next ∷ ranges)) (all 0 range (omega arith)),
      ranges_read fuel next ranges
          (λ k d low. all (suc k) d (omega arith)) (omega arith),
    ) refl

text_long : (range : Range) (ranges : List Range) → length ranges ≤ length (list_text (range ∷ ranges))
unfolding list_text
text_long range [] = omega arith
text_long range (next ∷ ranges) = omega (
  arith,
  text_long next ranges,
  length-append (range_text range)
      (44 ∷ list_text (next ∷ ranges)),
)

pub list_text_read : (range : Range) (ranges : List Range) → All IsRange (range ∷ ranges)
    → list_of (list_text (range ∷ ranges)) ≡ Ok (range ∷ ranges)
unfolding list_of
list_text_read range ranges all =
    ap (placed (list_text (range ∷ ranges))) (ranges_read (length (list_text (range ∷ ranges)) + 1) range ranges all
    (omega (arith, text_long range ranges)))
