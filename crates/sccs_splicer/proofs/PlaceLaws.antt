-- What comes next in rising numbers.
use Rattle.std.proofs.Common.{◌≡◌, ◌≢◌, ℕ, zero, suc, ◌+◌, ◌<◌, ◌≤◌, ◌==◌, Bool, true, false, cond, ◌||◌, List, [], ◌∷◌}
use Rattle.std.proofs.Common.{Option, None, Some, length, refl, sym, ap, subst, ◌∙◌, arith, eq-eqb}
use Rattle.std.specs.List.{slice_get}
use Rattle.std.proofs.lemmas.Bool.{ne_eqb, eqb-true, eqb-false}
use Rattle.std.proofs.lemmas.Option.{slice_get_past}
use Rattle.sccs_history.specs.Numbers.{has}
use Rattle.sccs_script_laws.specs.Plans.{added_after, places_of, RisesFrom}
use Rattle.sccs_script_laws.specs.declared.scripts.Added.{Added}
use Rattle.sccs_script_laws.specs.declared.scripts.Plan.{Plan}
use Rattle.sccs_splicer.specs.PlanPlaces.{is_next, next_place, Stands, StandsInPlan}
use Rattle.sccs_base.proofs.Bools.{or_none}

rises_not : (b low : ℕ) (ns : List ℕ) → b < low → RisesFrom low ns → has ns b ≡ false
rises_not b low [] lt rises = refl
rises_not b low (n ∷ ns) lt rises =
    ap (λ t. t || has ns b) (ne_eqb n b (λ e. omega (arith, rises.0))) ∙ rises_not b (suc n) ns (omega (arith, rises.0))
    rises.1

-- a number is among them exactly where it comes next
pub has_next : (b i : ℕ) (ns : List ℕ) → Stands b i ns → has ns b ≡ is_next (slice_get ns i) b
has_next b zero [] stands = refl
has_next b (suc i) [] stands = refl
has_next b zero (n ∷ ns) stands =
    ap (λ t. (n == b) || t) (rises_not b (suc n) ns (omega (arith, stands.behind.0)) stands.behind.1) ∙ or_none (n == b)
has_next b (suc i) (n ∷ ns) stands =
    ap (λ t. t || has ns b) (ne_eqb n b (λ e. omega (arith, stands.before.0)))
    ∙ has_next b i ns (record { before = stands.before.1; behind = stands.behind })

-- the place goes on behind a number
pub stands_next : (b i : ℕ) (ns : List ℕ) → Stands b i ns → Stands (suc b) (next_place (slice_get ns i) i b) ns
stands_next b zero [] stands = record { before = tt; behind = tt }
stands_next b (suc i) [] stands = record { before = tt; behind = tt }
stands_next b zero (n ∷ ns) stands = cases (n == b) refl
  where
    cases : (t : Bool) → (n == b) ≡ t → Stands (suc b) (cond t (suc zero) zero) (n ∷ ns)
    cases true same = let is : n ≡ b = eqb-true n b same in record {
      before = (omega (arith, is), tt);
      behind = subst (λ m. RisesFrom (suc m) ns) is stands.behind.1;
    }
    cases false other = let apart : n ≢ b = eqb-false n b other in record {
      before = tt;
      behind = (omega (arith, stands.behind.0, apart), stands.behind.1);
    }
stands_next b (suc i) (n ∷ ns) stands = behind_one (slice_get ns i)
    (stands_next b i ns (record { before = stands.before.1; behind = stands.behind }))
  where
    behind_one : (next : Option ℕ) → Stands (suc b) (next_place next i b) ns
        → Stands (suc b) (next_place next (suc i) b) (n ∷ ns)
    behind_one None rest = record { before = (omega (arith, stands.before.0), rest.before); behind = rest.behind }
    behind_one (Some m) rest = cases (m == b) rest
      where
        cases : (t : Bool) → Stands (suc b) (cond t (suc i) i) ns → Stands (suc b) (cond t (suc (suc i)) (suc i))
            (n ∷ ns)
        cases true rest = record { before = (omega (arith, stands.before.0), rest.before); behind = rest.behind }
        cases false rest = record { before = (omega (arith, stands.before.0), rest.before); behind = rest.behind }

-- the lines that are added after a base line, where the next list is looked at
abbrev next_lines : Option Added → ℕ → List (List ℕ)
next_lines None k = []
next_lines (Some a) k = cond (a.after == k) a.lines []

none_added : (b low : ℕ) (added : List Added) → b < low → RisesFrom low (places_of added) → added_after b added ≡ []
none_added b low [] lt rises = refl
none_added b low (a ∷ added) lt rises =
    ap (λ t. cond t a.lines (added_after b added)) (ne_eqb a.after b (λ e. omega (arith, rises.0)))
    ∙ none_added b (suc a.after) added (omega (arith, rises.0)) rises.1

added_next : (b j : ℕ) (added : List Added) → Stands b j (places_of added) → added_after b added ≡ next_lines
    (slice_get added j) b
added_next b zero [] stands = refl
added_next b (suc j) [] stands = refl
added_next b zero (a ∷ added) stands =
    ap (λ l. cond (a.after == b) a.lines l) (none_added b (suc a.after) added (omega (arith, stands.behind.0))
    stands.behind.1)
added_next b (suc j) (a ∷ added) stands =
    ap (λ t. cond t a.lines (added_after b added)) (ne_eqb a.after b (λ e. omega (arith, stands.before.0)))
    ∙ added_next b j added (record { before = stands.before.1; behind = stands.behind })

pub added_there : (b j : ℕ) (added : List Added) (a : Added) → Stands b j (places_of added) → slice_get added j ≡ Some a
    → a.after ≡ b → a.lines ≡ added_after b added
added_there b j added a stands is same =
    sym (added_next b j added stands ∙ (ap (λ o. next_lines o b) is ∙ ap (λ t. cond t a.lines [])
    (eq-eqb a.after b same)))

pub added_other : (b j : ℕ) (added : List Added) (a : Added) → Stands b j (places_of added) → slice_get added j ≡ Some a
    → a.after ≢ b → [] ≡ added_after b added
added_other b j added a stands is apart =
    sym (added_next b j added stands ∙ (ap (λ o. next_lines o b) is ∙ ap (λ t. cond t a.lines [])
    (ne_eqb a.after b apart)))

pub added_past : (b j : ℕ) (added : List Added) → Stands b j (places_of added) → length added ≤ j
    → [] ≡ added_after b added
added_past b j added stands past = sym (added_next b j added stands ∙ ap (λ o. next_lines o b)
    (slice_get_past added j past))

-- both places, behind the next line
pub stood_at : (p : Plan) (line i j i2 j2 : ℕ) (deleted added : Option ℕ) → StandsInPlan p line i j
    → deleted ≡ slice_get p.deleted i → added ≡ slice_get (places_of p.added) j
    → i2 ≡ next_place deleted i (line + 1) → j2 ≡ next_place added j line → StandsInPlan p (line + 1) i2 j2
stood_at p line i j i2 j2 deleted added stands deleted_is added_is i2_is j2_is =
    let more : suc line ≡ line + 1 = omega arith in
    record {
      deleted = subst (λ k. Stands (suc k) i2 p.deleted) more
          (subst (λ k. Stands (suc (suc line)) k p.deleted)
          (sym (i2_is ∙ (ap (λ o. next_place o i (line + 1)) deleted_is
          ∙ ap (λ k. next_place (slice_get p.deleted i) i k) (sym more))))
          (stands_next (suc line) i p.deleted stands.deleted));
      added = subst (λ k. Stands k j2 (places_of p.added)) more
          (subst (λ k. Stands (suc line) k (places_of p.added))
          (sym (j2_is ∙ ap (λ o. next_place o j line) added_is))
          (stands_next line j (places_of p.added) stands.added));
    }

pub has_is : (line i : ℕ) (ns : List ℕ) (next : Option ℕ) (found : Bool) → Stands (suc line) i ns
    → next ≡ slice_get ns i → found ≡ is_next next (line + 1) → found ≡ has ns (suc line)
has_is line i ns next found stands next_is found_is =
    let more : line + 1 ≡ suc line = omega arith in
    found_is ∙ (ap (λ o. is_next o (line + 1)) next_is ∙ (ap (λ k. is_next (slice_get ns i) k) more
    ∙ sym (has_next (suc line) i ns stands)))
