-- All entries agree where none is the first that doesn't.
use Rattle.std.proofs.Common.{◌≡◌, ℕ, ◌≤◌, nat_lt, Bool, true, false, cond, not, List, [], ◌∷◌, length, Option, None}
use Rattle.std.proofs.Common.{Some, refl, sym, ap, ◌∙◌, arith}
use Rattle.std.specs.Prelude.{position}
use Rattle.std.specs.List.{AllByRecursion, position_or_len}
use Rattle.std.proofs.lemmas.Bool.{ltb-false, true≢false, not-true}
use Rattle.std.proofs.lemmas.List.Elements.{recursion_from_All, All-from_recursion}
use Rattle.std.proofs.lemmas.List.Quantifiers.{position-Some}
use Rattle.std.proofs.lemmas.List.Sums.{fails_before_first}
use Rattle.sccs_history.specs.declared.headers.Record.{Record}
use Rattle.sccs_pfile.specs.declared.entries.Edit.{Edit}
use Rattle.sccs_pfile.specs.Agreement.{Agrees, agrees}

none_long : (p : Edit → Bool) (xs : List Edit) → None ≡ position p xs → length xs ≤ position_or_len p xs
none_long p xs none = by (nat_lt (position_or_len p xs) (length xs)) refl none
  where
    by : (t : Bool) → nat_lt (position_or_len p xs) (length xs) ≡ t → None ≡ cond t (Some (position_or_len p xs)) None
        → length xs ≤ position_or_len p xs
    by true low is = cc
    by false high is = ltb-false (position_or_len p xs) (length xs) high

passes : (b : Bool) → not b ≡ false → b ≡ true
passes true is = refl
passes false is = cc

pub all_agree : (records : List Record) (edits : List Edit) → None ≡ position (λ e. not (agrees records edits e)) edits
    → Agrees records edits
all_agree records edits none =
    recursion_from_All (λ e. agrees records edits e ≡ true) edits λ k d low.
    passes _ (fails_before_first (λ e. not (agrees records edits e)) edits k d (let long =
    none_long (λ e. not (agrees records edits e)) edits none in omega (arith, long, low)))

disagrees_by : (test : Edit → Bool) (edits : List Edit) (place : ℕ) → Some place ≡ position (λ e. not (test e)) edits
    → AllByRecursion (λ e. test e ≡ true) edits → ⊥
disagrees_by test [] place found are = cc
disagrees_by test (e ∷ rest) place found are =
    let here = position-Some (λ x. not (test x)) (e ∷ rest) place e (sym found) in
    true≢false (sym (All-from_recursion (λ x. test x ≡ true) (e ∷ rest) are place e here.0) ∙ not-true _ here.1)

pub one_disagrees : (records : List Record) (edits : List Edit) (place : ℕ)
    → Some place ≡ position (λ e. not (agrees records edits e)) edits → Agrees records edits → ⊥
one_disagrees records edits place found are = disagrees_by (agrees records edits) edits place found are

position_as : (records rs : List Record) (edits es : List Edit) → rs ≡ records → es ≡ edits
    → position (λ e. not (agrees rs es e)) es ≡ position (λ e. not (agrees records edits e)) edits
position_as records rs edits es same others =
    ap (λ r. position (λ e. not (agrees r es e)) es) same ∙ ap (λ l. position (λ e. not (agrees records l e)) l) others

pub found_disagrees : (records rs : List Record) (edits es : List Edit) (place : ℕ) (o : Option ℕ) → rs ≡ records
    → es ≡ edits → o ≡ position (λ e. not (agrees rs es e)) es → o ≡ Some place
    → (false ≡ true → Agrees records edits) × (Agrees records edits → false ≡ true)
found_disagrees records rs edits es place o same others found is = (
  (λ e. absurd (true≢false (sym e))),
  (λ are. absurd (one_disagrees records edits place (sym is
      ∙ (found ∙ position_as records rs edits es same others)) are)),
)

pub none_disagrees : (records rs : List Record) (edits es : List Edit) (o : Option ℕ) → rs ≡ records → es ≡ edits
    → o ≡ position (λ e. not (agrees rs es e)) es → o ≡ None
    → (true ≡ true → Agrees records edits) × (Agrees records edits → true ≡ true)
none_disagrees records rs edits es o same others found is =
    ((λ e. all_agree records edits (sym is ∙ (found ∙ position_as records rs edits es same others))), (λ are. refl))
