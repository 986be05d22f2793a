-- A soak (own): its commands one after another, as long as none is refused; and then what they made is printed.
use Rattle.std.specs.Prelude.{ℕ, List, [], ◌∷◌}
use Rattle.sccs_steps.specs.Speaking.{BegunInTurn, InTurn, OperandBegins, OperandMakes}
use Rattle.sccs_steps.specs.StepLists.{NamedStep}
use Rattle.sccs_steps.specs.declared.statuses.StatusRule.TheVariants.{Greatest}
use Rattle.sccs_step_lists.specs.StepLists.{StepLists, follow, saying, while_fine}
use Rattle.sccs_step_lists.specs.Following.{BegunThen, WholeBy, WholeThen}
use Rattle.sccs_step_lists.specs.Sayings.{BegunSaid, WholeSaid}
use Rattle.sccs_step_lists.specs.WhileFine.{BegunWhileFine, Following, WholeWhileFine}
use Rattle.sccs_batch.specs.declared.entries.BatchEntry.{BatchEntry}
use Rattle.sccs_soak.specs.Commands.{soak_commands, soak_file}
use Rattle.sccs_soak.specs.Summaries.{summary_action, summary_step_list}

-- a command; that its words are made is a step that does nothing
abbrev pub soaked : StepLists → StepLists
soaked command = follow (saying [] [] 0) (λ code. command)

abbrev pub soak_step_list : (BatchEntry → StepLists) → ℕ → StepLists
soak_step_list command number = while_fine (λ (e : BatchEntry). soaked (command e)) (summary_step_list number)
    (soak_commands number)

-- ---- over any disk

abbrev pub WholeSoaked : (ℕ → List NamedStep → Type 0) → ℕ → List NamedStep → Type 0
WholeSoaked whole = WholeThen (WholeSaid [] [] 0) (λ code. whole)

abbrev pub BegunSoaked : (List NamedStep → Type 0) → List NamedStep → Type 0
BegunSoaked begun = BegunThen (WholeSaid [] [] 0) (BegunSaid [] []) (λ code. begun)

abbrev pub WholeSummary : ℕ → ℕ → List NamedStep → Type 0
WholeSummary number = WholeBy Greatest (InTurn (OperandMakes (summary_action number)) (soak_file ∷ []))

abbrev pub BegunSummary : ℕ → List NamedStep → Type 0
BegunSummary number = BegunInTurn (OperandMakes (summary_action number)) (OperandBegins (summary_action number))
    (soak_file ∷ [])

abbrev pub WholeSoak : (BatchEntry → ℕ → List NamedStep → Type 0) → ℕ → ℕ → List NamedStep → Type 0
WholeSoak whole number = WholeWhileFine (λ (e : BatchEntry). WholeSoaked (whole e)) (WholeSummary number)
    (soak_commands number)

abbrev pub BegunSoak : (BatchEntry → ℕ → List NamedStep → Type 0) → (BatchEntry → List NamedStep → Type 0) → ℕ
    → List NamedStep → Type 0
BegunSoak whole begun number = BegunWhileFine (λ (e : BatchEntry). WholeSoaked (whole e)) (λ (e : BatchEntry).
    BegunSoaked (begun e)) (BegunSummary number) (soak_commands number)

-- what a soak follows
abbrev pub soaking : (BatchEntry → StepLists) → (BatchEntry → Type 0) → (BatchEntry → ℕ → List NamedStep → Type 0)
    → (BatchEntry → List NamedStep → Type 0) → ℕ → Following BatchEntry
soaking command fits whole begun number = record {
  each = λ (e : BatchEntry). soaked (command e);
  last = summary_step_list number;
  fits = fits;
  whole = λ (e : BatchEntry). WholeSoaked (whole e);
  begun = λ (e : BatchEntry). BegunSoaked (begun e);
  last_whole = WholeSummary number;
  last_begun = BegunSummary number;
}
