-- What the calls of a soak say.
use Rattle.std.specs.Prelude.{ℕ, zero, suc, List, [], ◌∷◌, ◌++◌, Result, Ok, Err}
use Rattle.std.specs.List.{AllByRecursion}
use Rattle.sccs_steps.specs.Settings.{Setting}
use Rattle.sccs_steps.specs.StepLists.{NamedStep}
use Rattle.sccs_steps.specs.declared.faults.Fault.{Fault}
use Rattle.sccs_step_lists.specs.StepLists.{StepLists}
use Rattle.sccs_step_lists.specs.Following.{RunsStepList}
use Rattle.sccs_step_lists.specs.WhileFine.{RunsWhileFine}
use Rattle.sccs_batch.specs.declared.entries.BatchEntry.{BatchEntry}
use Rattle.sccs_soak.specs.Commands.{delta_command, edit_command, soak_commands}
use Rattle.sccs_soak.specs.Soak.{BegunSoak, BegunSoaked, WholeSoak, WholeSoaked, soak_step_list, soaked, soaking}
use Rattle.sccs_soak.specs.declared.turns.Turn.{Turn}

-- a call that does a command
abbrev pub RunsSoaked : StepLists → Type 0 → (ℕ → List NamedStep → Type 0) → (List NamedStep → Type 0) → Result ℕ Fault
    → Setting → Setting → Type 0
RunsSoaked command fits whole begun r s t = RunsStepList (soaked command) (λ i. fits) (WholeSoaked whole)
    (BegunSoaked begun) r s t

-- a call that does the commands of a round: whatever is followed behind it, or that ended with another status, or early
abbrev pub RoundEnds : (BatchEntry → StepLists) → (BatchEntry → Type 0) → (BatchEntry → ℕ → List NamedStep → Type 0)
    → (BatchEntry → List NamedStep → Type 0) → ℕ → List BatchEntry → List BatchEntry → Result ℕ Fault → Setting
    → Setting → Type 0
RoundEnds command fits whole begun number round rest (Ok zero) s t = (r : Result ℕ Fault) (u : Setting)
    → RunsWhileFine (soaking command fits whole begun number) rest r t u
    → RunsWhileFine (soaking command fits whole begun number) (round ++ rest) r s u
RoundEnds command fits whole begun number round rest (Ok (suc code)) s t =
    RunsWhileFine (soaking command fits whole begun number) (round ++ rest) (Ok (suc code)) s t
RoundEnds command fits whole begun number round rest (Err fault) s t =
    RunsWhileFine (soaking command fits whole begun number) (round ++ rest) (Err fault) s t

abbrev pub RunsRound : (BatchEntry → StepLists) → (BatchEntry → Type 0) → (BatchEntry → ℕ → List NamedStep → Type 0)
    → (BatchEntry → List NamedStep → Type 0) → ℕ → Turn → Result ℕ Fault → Setting → Setting → Type 0
RunsRound command fits whole begun round turn r s t =
    (number : ℕ) (rest : List BatchEntry) → RoundEnds command fits whole begun number
    (edit_command round turn ∷ delta_command round turn ∷ []) rest r s t

-- however the commands from here on are done, all of them are done so
abbrev pub LeadsSoak : (BatchEntry → StepLists) → (BatchEntry → Type 0) → (BatchEntry → ℕ → List NamedStep → Type 0)
    → (BatchEntry → List NamedStep → Type 0) → ℕ → List BatchEntry → Setting → List BatchEntry → Setting → Type 0
LeadsSoak command fits whole begun number all s rest t =
    (r : Result ℕ Fault) (u : Setting) → RunsWhileFine (soaking command fits whole begun number) rest r t u
    → RunsWhileFine (soaking command fits whole begun number) all r s u

-- a call that does a soak
abbrev pub RunsSoak : (BatchEntry → StepLists) → (BatchEntry → Type 0) → (BatchEntry → ℕ → List NamedStep → Type 0)
    → (BatchEntry → List NamedStep → Type 0) → ℕ → Result ℕ Fault → Setting → Setting → Type 0
RunsSoak command fits whole begun number r s t =
    RunsStepList (soak_step_list command number) (λ i. AllByRecursion fits (soak_commands number))
    (WholeSoak whole number) (BegunSoak whole begun number) r s t
