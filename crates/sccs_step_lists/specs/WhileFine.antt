-- Over any disk: lists of steps that are followed one after another as long as their status is 0.
use Rattle.std.specs.Prelude.{◌≡◌, ℕ, zero, suc, List, [], ◌∷◌, Result}
use Rattle.std.specs.List.{AllByRecursion}
use Rattle.sccs_steps.specs.Settings.{Setting}
use Rattle.sccs_steps.specs.StepLists.{NamedStep}
use Rattle.sccs_steps.specs.declared.faults.Fault.{Fault}
use Rattle.sccs_step_lists.specs.StepLists.{StepLists, while_fine}
use Rattle.sccs_step_lists.specs.Following.{BegunThen, RunsStepList, WholeThen}
use Rattle.sccs_step_lists.specs.Sayings.{WholeNothing}

-- the steps of a list of steps that is followed only where the status was 0
abbrev pub WholeIfFine : (ℕ → List NamedStep → Type 0) → ℕ → ℕ → List NamedStep → Type 0
WholeIfFine whole zero = whole
WholeIfFine whole (suc code) = WholeNothing (suc code)

abbrev pub BegunIfFine : (List NamedStep → Type 0) → ℕ → List NamedStep → Type 0
BegunIfFine begun zero = begun
BegunIfFine begun (suc code) = λ ts. ts ≡ []

-- those of several things as long as the status is 0, and then those of the last list of steps
abbrev pub WholeWhileFine : {X : Type 0} → (X → ℕ → List NamedStep → Type 0) → (ℕ → List NamedStep → Type 0) → List X
    → ℕ → List NamedStep → Type 0
WholeWhileFine whole last [] = last
WholeWhileFine whole last (x ∷ xs) = WholeThen (whole x) (WholeIfFine (WholeWhileFine whole last xs))

abbrev pub BegunWhileFine : {X : Type 0} → (X → ℕ → List NamedStep → Type 0) → (X → List NamedStep → Type 0)
    → (List NamedStep → Type 0) → List X → List NamedStep → Type 0
BegunWhileFine whole begun last [] = last
BegunWhileFine whole begun last (x ∷ xs) = BegunThen (whole x) (begun x)
    (BegunIfFine (BegunWhileFine whole begun last xs))

-- What is followed, what is asked of each thing, and the steps that may come.
pub record Following (X : Type 0) : Type 1 where
  pub each : X → StepLists
  pub last : StepLists
  pub fits : X → Type 0
  pub whole : X → ℕ → List NamedStep → Type 0
  pub begun : X → List NamedStep → Type 0
  pub last_whole : ℕ → List NamedStep → Type 0
  pub last_begun : List NamedStep → Type 0

-- a call that follows several things so
abbrev pub RunsWhileFine : {X : Type 0} → Following X → List X → Result ℕ Fault → Setting → Setting → Type 0
RunsWhileFine f xs r s t =
    RunsStepList (while_fine f.each f.last xs) (λ i. AllByRecursion f.fits xs) (WholeWhileFine f.whole f.last_whole xs)
    (BegunWhileFine f.whole f.begun f.last_begun xs) r s t
