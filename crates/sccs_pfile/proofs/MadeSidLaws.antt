-- The sets of the SIDs that entries make.
use Rattle.std.proofs.Common.{◌≡◌, ℕ, ◌+◌, ◌<◌, ◌≤◌, nat_lt, Bool, true, false, cond, List, [], ◌∷◌, ◌++◌, refl, sym}
use Rattle.std.proofs.Common.{ap, ◌∙◌, arith}
use Rattle.std.proofs.lemmas.Bool.{le-ltb, lt-ltb, ltb-false, ltb-true}
use Rattle.std.specs.BTreeSet.{BTreeSet, Updates, contains}
use Rattle.sccs_sid.specs.declared.sids.Sid.{Sid}
use Rattle.sccs_history.specs.History.{same_sid}
use Rattle.sccs_grammar.proofs.EntryLaws.{flip_sids}
use Rattle.sccs_grammar.specs.SidKeys.{sid_key}
use Rattle.sccs_sets.proofs.NewSids.{same_is}
use Rattle.sccs_pfile.specs.Agreement.{makers}
use Rattle.sccs_pfile.specs.MadeSids.{HasMakers}
use Rattle.sccs_pfile.specs.declared.entries.Edit.{Edit}
use Rattle.sccs_pfile.specs.declared.makers.Makers.{Makers}
use Rattle.sccs_pfile.proofs.Reserving.{count_more}
use Rattle.sccs_sid.specs.FourNumbers.{four_cmp}
use Rattle.sccs_grammar.proofs.TableSets.{sid_same}

-- ---- one entry more

makers_more : (edits : List Edit) (e : Edit) (sid : Sid) → makers (edits ++ e ∷ []) sid ≡ makers edits sid + cond
    (same_sid sid e.made) 1 0
makers_more edits e sid = count_more (λ o. same_sid sid o.made) edits e

first_some : (same : Bool) (m : ℕ) → cond same true (nat_lt 0 m) ≡ nat_lt 0 (m + cond same 1 0)
first_some true m = sym (lt-ltb 0 (m + 1) (omega arith))
first_some false m = let none : m ≡ m + 0 = omega arith in ap (nat_lt 0) none

first_several : (same : Bool) (m : ℕ) → (same ≡ true → nat_lt 0 m ≡ false) → nat_lt 1 m ≡ nat_lt 1 (m + cond same 1 0)
first_several true m new =
    let none : m ≤ 0 = ltb-false 0 m (new refl) in
    le-ltb 1 m (omega (arith, none)) ∙ sym (le-ltb 1 (m + 1) (omega (arith, none)))
first_several false m new = let none : m ≡ m + 0 = omega arith in ap (nat_lt 1) none

again_some : (same : Bool) (m : ℕ) → (same ≡ true → nat_lt 0 m ≡ true) → nat_lt 0 m ≡ nat_lt 0 (m + cond same 1 0)
again_some true m old = old refl ∙ sym (lt-ltb 0 (m + 1) (omega arith))
again_some false m old = let none : m ≡ m + 0 = omega arith in ap (nat_lt 0) none

again_several : (same : Bool) (m : ℕ) → (same ≡ true → nat_lt 0 m ≡ true) → cond same true (nat_lt 1 m) ≡ nat_lt 1
    (m + cond same 1 0)
again_several true m old = let some : 0 < m = ltb-true 0 m (old refl) in sym (lt-ltb 1 (m + 1) (omega (arith, some)))
again_several false m old = let none : m ≡ m + 0 = omega arith in ap (nat_lt 1) none

-- what a set has with a SID more
inserted : (old new : BTreeSet (ℕ × ℕ × ℕ × ℕ)) (e : Edit) (sid : Sid) → Updates four_cmp old new (sid_key e.made) true
    → contains four_cmp new (sid_key sid) ≡ cond (same_sid sid e.made) true (contains four_cmp old (sid_key sid))
inserted old new e sid updates =
    updates.0 (sid_key sid) ∙ ap (λ same. cond same true (contains four_cmp old (sid_key sid))) (sid_same e.made sid
    ∙ flip_sids e.made sid)

-- a SID is made by as many as an equal one
as_made : (edits : List Edit) (e : Edit) (sid : Sid) (b : Bool) → nat_lt 0 (makers edits e.made) ≡ b
    → same_sid sid e.made ≡ true → nat_lt 0 (makers edits sid) ≡ b
as_made edits e sid b is same = ap (λ s. nat_lt 0 (makers edits s)) (same_is sid e.made same) ∙ is

pub first_maker : (found more : Makers) (edits : List Edit) (e : Edit) → HasMakers found edits
    → contains four_cmp found.some (sid_key e.made) ≡ false
    → Updates four_cmp found.some more.some (sid_key e.made) true → more.several ≡ found.several
    → HasMakers more (edits ++ e ∷ [])
first_maker found more edits e has new updates same = record {
  some = λ sid.
      inserted found.some more.some e sid updates
      ∙ (ap (λ there. cond (same_sid sid e.made) true there) (has.some sid)
      ∙ (first_some (same_sid sid e.made) (makers edits sid) ∙ ap (nat_lt 0) (sym (makers_more edits e sid))));
  several = λ sid.
      ap (λ s. contains four_cmp s (sid_key sid)) same
      ∙ (has.several sid
      ∙ (first_several (same_sid sid e.made) (makers edits sid) (as_made edits e sid false (sym (has.some e.made)
      ∙ new)) ∙ ap (nat_lt 1) (sym (makers_more edits e sid))));
}

pub one_more_maker : (found more : Makers) (edits : List Edit) (e : Edit) → HasMakers found edits
    → contains four_cmp found.some (sid_key e.made) ≡ true
    → Updates four_cmp found.several more.several (sid_key e.made) true → more.some ≡ found.some
    → HasMakers more (edits ++ e ∷ [])
one_more_maker found more edits e has there updates same = record {
  some = λ sid.
      ap (λ s. contains four_cmp s (sid_key sid)) same
      ∙ (has.some sid
      ∙ (again_some (same_sid sid e.made) (makers edits sid) (as_made edits e sid true (sym (has.some e.made) ∙ there))
      ∙ ap (nat_lt 0) (sym (makers_more edits e sid))));
  several = λ sid.
      inserted found.several more.several e sid updates
      ∙ (ap (λ here. cond (same_sid sid e.made) true here) (has.several sid)
      ∙ (again_several (same_sid sid e.made) (makers edits sid) (as_made edits e sid true (sym (has.some e.made)
      ∙ there)) ∙ ap (nat_lt 1) (sym (makers_more edits e sid))));
}
