-- What a summary has of a delta begins with its marks.
use Rattle.std.proofs.Common.{◌≡◌, ◌↔◌, ℕ, Bool, true, false, List, [], ◌∷◌, ◌++◌, take, refl, sym, ap, arith}
use Rattle.std.specs.Prelude.{codes, if◌then◌else◌}
use Rattle.sccs_history.specs.Numbers.{has}
use Rattle.sccs_history.specs.declared.headers.Record.{Record}
use Rattle.sccs_summary.specs.Summaries.{Choice, entry_text}

abbrev first : List ℕ → ℕ
first [] = 0
first (b ∷ rest) = b

marks_differ : codes "  " ≡ codes "**" → ⊥
marks_differ is = let e : 32 ≡ 42 = ap first is in omega (arith, e)

never : true ≡ false → ⊥
never is = cc

abbrev marked : Bool → List ℕ → List ℕ → List ℕ
marked b front rest = ((if b then codes "  " else codes "**") ++ front) ++ rest

blanks : (b : Bool) (front rest : List ℕ) → (take 2 (marked b front rest) ≡ codes "  ") ↔ (b ≡ true)
blanks true front rest = (λ is. refl, λ is. refl)
blanks false front rest = (λ is. absurd (marks_differ (sym is)), λ is. absurd (never (sym is)))

stars : (b : Bool) (front rest : List ℕ) → (take 2 (marked b front rest) ≡ codes "**") ↔ (b ≡ false)
stars true front rest = (λ is. absurd (marks_differ is), λ is. absurd (never is))
stars false front rest = (λ is. refl, λ is. refl)

pub applied_marked : (c : Choice) (r : Record) → (take 2 (entry_text c r) ≡ codes "  ") ↔ (has c.set r.serial ≡ true)
applied_marked c r = blanks (has c.set r.serial) _ _

pub others_marked : (c : Choice) (r : Record) → (take 2 (entry_text c r) ≡ codes "**") ↔ (has c.set r.serial ≡ false)
others_marked c r = stars (has c.set r.serial) _ _
