-- Lists of portions, one behind another.
use Rattle.std.proofs.Common.{◌≡◌, List, [], ◌∷◌, ◌++◌, append_assoc, ap, refl, sym, ◌∙◌}
use Rattle.std.specs.List.{AllByRecursion}
use Rattle.std.proofs.lemmas.List.{append-nil}
use Rattle.sccs_disk.specs.Files.{View}
use Rattle.sccs_steps.specs.ListStops.{KeepsSafe}
use Rattle.sccs_steps.specs.StepLists.{NamedStep}
use Rattle.sccs_steps.proofs.Turns.{each_all}
use Rattle.sccs_step_lists.specs.StepLists.{AllSafe, AllTake, Portion, steps_in}

pub both_all : {X : Type 0} (P : X → Type 0) (xs ys : List X) → AllByRecursion P xs → AllByRecursion P ys
    → AllByRecursion P (xs ++ ys)
both_all P [] ys first next = next
both_all P (x ∷ xs) ys first next = (first.0, both_all P xs ys first.1 next)

pub steps_more : (ps qs : List Portion) → steps_in (ps ++ qs) ≡ steps_in ps ++ steps_in qs
steps_more [] qs = refl
steps_more (p ∷ []) [] = sym (append-nil p.steps)
steps_more (p ∷ []) (q ∷ qs) = refl
steps_more (p ∷ r ∷ ps) qs = ap (λ (ts : List NamedStep). p.steps ++ ts) (steps_more (r ∷ ps) qs)
    ∙ sym (append_assoc p.steps (steps_in (r ∷ ps)) (steps_in qs))

-- names that were safe are safe later
pub safe_later : (ps : List Portion) (u v : View) → KeepsSafe u v → AllTake ps → AllSafe u ps → AllSafe v ps
safe_later [] u v keeps takes safe = tt
safe_later (p ∷ ps) u v keeps takes safe = (
  each_all _ _ p.parts (λ (t : NamedStep) before fits changes. keeps t.name (takes.0 changes t.name fits)
      (before fits changes)) safe.0,
  safe_later ps u v keeps takes.1 safe.1,
)
