-- Texts that are written beside the steps of utilities.
use Rattle.std.specs.Prelude.{◌≡◌, ℕ, List, [], ◌∷◌, Result, Ok, Err}
use Rattle.sccs_base.specs.Stream.{GivesOk, GivesSome}
use Rattle.sccs_steps.specs.Calls.{Scene}
use Rattle.sccs_steps.specs.StepLists.{NamedStep}
use Rattle.sccs_steps.specs.declared.faults.Fault.{Fault}
use Rattle.sccs_steps.specs.declared.faults.Fault.TheVariants as ends
use Rattle.sccs_step_lists.specs.StepLists.{said}

-- a text on out and one on err were written, with this status, or a prefix of each
abbrev pub IsSaid : List ℕ → List ℕ → ℕ → Result ℕ Fault → Scene → Scene → Type 0
IsSaid out err code (Ok status) a b = (status ≡ code) × GivesOk a.out b.out out × GivesOk a.err b.err err
IsSaid out err code (Err ends.WriteFault) a b = GivesSome a.out b.out out × GivesSome a.err b.err err
IsSaid out err code (Err fault) a b = ⊥

-- the steps that may come of it
abbrev pub WholeSaid : List ℕ → List ℕ → ℕ → ℕ → List NamedStep → Type 0
WholeSaid out err code status ts = (status ≡ code) × (ts ≡ said out err ∷ [])

abbrev pub BegunSaid : List ℕ → List ℕ → List NamedStep → Type 0
BegunSaid out err ts = ts ≡ said out err ∷ []

-- nothing may come of nothing
abbrev pub WholeNothing : ℕ → ℕ → List NamedStep → Type 0
WholeNothing code status ts = (status ≡ code) × (ts ≡ [])
