-- What is asked and said, by tests.
use Rattle.std.specs.Prelude.{◌≡◌, ℕ, Bool, true, List}
use Rattle.sccs_steps.specs.StepLists.{NamedStep}

-- an input passes a test
abbrev pub Passes : (List ℕ → Bool) → List ℕ → Type 0
Passes test i = test i ≡ true

-- so do some steps, and steps with their status
abbrev pub StepsPass : (List NamedStep → Bool) → List NamedStep → Type 0
StepsPass test ts = test ts ≡ true

abbrev pub StatusPasses : (ℕ → List NamedStep → Bool) → ℕ → List NamedStep → Type 0
StatusPasses test status ts = test status ts ≡ true
