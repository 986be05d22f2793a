-- What a call says that runs a batch.
use Rattle.std.specs.Prelude.{◌≡◌, ◌⊎◌, ℕ, ◌+◌, ◌≤◌, nat_lt, true, List, [], ◌∷◌, length, drop, codes, if◌then◌else◌}
use Rattle.std.specs.Prelude.{Option, None, Some, Result, Ok, Err}
use Rattle.std.specs.List.{AllByRecursion}
use Rattle.sccs_base.specs.Constants.{file_limit}
use Rattle.sccs_base.specs.Cut.{text_of}
use Rattle.sccs_base.specs.Stream.{Rose}
use Rattle.sccs_sid.specs.Refusal.{refusal_line}
use Rattle.sccs_sid.specs.declared.refusals.Refusal.TheVariants.{TooLong}
use Rattle.sccs_steps.specs.Actions.{IsHeard}
use Rattle.sccs_steps.specs.Messages.{SaysRefusal}
use Rattle.sccs_steps.specs.Settings.{Setting}
use Rattle.sccs_steps.specs.StepLists.{NamedStep}
use Rattle.sccs_steps.specs.declared.faults.Fault.{Fault}
use Rattle.sccs_steps.specs.declared.faults.Fault.TheVariants as ends
use Rattle.sccs_step_lists.specs.StepLists.{StepLists, follow, nothing, one_by_one, saying}
use Rattle.sccs_step_lists.specs.Following.{BegunList, BegunThen, RunsStepList, WholeList, WholeThen}
use Rattle.sccs_step_lists.specs.Sayings.{BegunSaid, WholeNothing, WholeSaid}
use Rattle.sccs_batch.specs.BatchLines.{bad_entry_line, status_line}
use Rattle.sccs_batch.specs.BatchText.{Batch, batch_of, batch_from}
use Rattle.sccs_batch.specs.declared.entries.BatchEntry.{BatchEntry}

-- the command of an entry, and then its status is written
abbrev pub entry_step_list : StepLists → StepLists
entry_step_list command = follow command (λ status. saying (status_line status) [] status)

-- where a batch ends: at a line that is no entry, which is said, or where its lines do
abbrev pub batch_end : Option ℕ → StepLists
batch_end None = nothing 0
batch_end (Some number) = saying [] (bad_entry_line number) 1

-- the entries in their order
abbrev pub entries_step_list : (BatchEntry → StepLists) → Batch → StepLists
entries_step_list command batch = one_by_one (λ (e : BatchEntry). entry_step_list (command e)) (batch_end batch.bad)
    batch.entries

-- the batch that an input is; that it was read is a step that does nothing. One past the limit is refused.
abbrev pub batch_on : (BatchEntry → StepLists) → List ℕ → StepLists
batch_on command input =
    if nat_lt file_limit (length input) then saying [] (refusal_line (codes "-") TooLong) 1
    else follow (saying [] [] 0) (λ code. entries_step_list command (batch_of (text_of input)))

abbrev pub batch_step_list : (BatchEntry → StepLists) → StepLists
batch_step_list command = λ folder i. batch_on command i folder i

-- ---- over any disk

abbrev pub WholeEntry : (ℕ → List NamedStep → Type 0) → ℕ → List NamedStep → Type 0
WholeEntry whole = WholeThen whole (λ status. WholeSaid (status_line status) [] status)

abbrev pub BegunEntry : (ℕ → List NamedStep → Type 0) → (List NamedStep → Type 0) → List NamedStep → Type 0
BegunEntry whole begun = BegunThen whole begun (λ status. BegunSaid (status_line status) [])

abbrev pub WholeEnd : Option ℕ → ℕ → List NamedStep → Type 0
WholeEnd None = WholeNothing 0
WholeEnd (Some number) = WholeSaid [] (bad_entry_line number) 1

abbrev pub BegunEnd : Option ℕ → List NamedStep → Type 0
BegunEnd None ts = ts ≡ []
BegunEnd (Some number) ts = BegunSaid [] (bad_entry_line number) ts

abbrev pub WholeEntries : (BatchEntry → ℕ → List NamedStep → Type 0) → Batch → ℕ → List NamedStep → Type 0
WholeEntries whole batch = WholeList (λ (e : BatchEntry). WholeEntry (whole e)) (WholeEnd batch.bad) batch.entries

abbrev pub BegunEntries : (BatchEntry → ℕ → List NamedStep → Type 0) → (BatchEntry → List NamedStep → Type 0) → Batch
    → List NamedStep → Type 0
BegunEntries whole begun batch = BegunList (λ (e : BatchEntry). WholeEntry (whole e)) (λ (e : BatchEntry). BegunEntry
    (whole e) (begun e)) (BegunEnd batch.bad) batch.entries

-- of some lines, or of an input that was refused
abbrev pub WholeBatch : (BatchEntry → ℕ → List NamedStep → Type 0) → ℕ → List NamedStep → Type 0
WholeBatch whole status ts =
    ((lines : List (List ℕ)) × WholeThen (WholeSaid [] [] 0) (λ code. WholeEntries whole (batch_of lines)) status ts)
    ⊎ WholeSaid [] (refusal_line (codes "-") TooLong) 1 status ts

abbrev pub BegunBatch : (BatchEntry → ℕ → List NamedStep → Type 0) → (BatchEntry → List NamedStep → Type 0)
    → List NamedStep → Type 0
BegunBatch whole begun ts =
    ((lines : List (List ℕ)) × BegunThen (WholeSaid [] [] 0) (BegunSaid [] []) (λ code. BegunEntries whole begun
    (batch_of lines)) ts) ⊎ BegunSaid [] (refusal_line (codes "-") TooLong) ts

-- ---- calls

-- a call that follows a list of steps, or did nothing for want of memory
abbrev pub RunsOwn : StepLists → Type 0 → (ℕ → List NamedStep → Type 0) → (List NamedStep → Type 0) → Result ℕ Fault
    → Setting → Setting → Type 0
RunsOwn command fits whole begun r s t = RunsStepList command (λ i. fits) whole begun r s t
    ⊎ ((r ≡ Err ends.Memory) × (t ≡ s))

-- a call that runs the command of an entry and writes its status
abbrev pub RunsEntry : StepLists → Type 0 → (ℕ → List NamedStep → Type 0) → (List NamedStep → Type 0) → Result ℕ Fault
    → Setting → Setting → Type 0
RunsEntry command fits whole begun r s t = RunsStepList (entry_step_list command) (λ i. fits) (WholeEntry whole)
    (BegunEntry whole begun) r s t

-- a call that runs entries
abbrev pub RunsEntries : (BatchEntry → StepLists) → (BatchEntry → Type 0) → (BatchEntry → ℕ → List NamedStep → Type 0)
    → (BatchEntry → List NamedStep → Type 0) → Batch → Result ℕ Fault → Setting → Setting → Type 0
RunsEntries command fits whole begun batch r s t =
    RunsStepList (entries_step_list command batch) (λ i. AllByRecursion fits batch.entries) (WholeEntries whole batch)
    (BegunEntries whole begun batch) r s t

-- where a call stands that runs all entries, before these lines, the first of which has this number
abbrev pub ReachesLines : (BatchEntry → StepLists) → (BatchEntry → Type 0) → (BatchEntry → ℕ → List NamedStep → Type 0)
    → (BatchEntry → List NamedStep → Type 0) → Batch → ℕ → List (List ℕ) → Setting → Setting → Type 0
ReachesLines command fits whole begun all number rest s t =
    (r : Result ℕ Fault) (u : Setting) → RunsEntries command fits whole begun (batch_from 0 number rest) r t u
    → RunsEntries command fits whole begun all r s u

-- where it stands behind the next entry, or how it ends: at a line that is none with the status 1
abbrev pub NextEnds : (BatchEntry → StepLists) → (BatchEntry → Type 0) → (BatchEntry → ℕ → List NamedStep → Type 0)
    → (BatchEntry → List NamedStep → Type 0) → Batch → ℕ → List (List ℕ) → Result (Option ℕ) Fault → Setting → Setting
    → Type 0
NextEnds command fits whole begun all number tail (Ok (Some own)) s u = ReachesLines command fits whole begun all
    (number + 1 + own) (drop own tail) s u
NextEnds command fits whole begun all number tail (Ok None) s u = RunsEntries command fits whole begun all (Ok 1) s u
NextEnds command fits whole begun all number tail (Err fault) s u = RunsEntries command fits whole begun all
    (Err fault) s u

-- a call that runs the entry of a line, with the lines behind it
abbrev pub RunsNext : (BatchEntry → StepLists) → (BatchEntry → Type 0) → (BatchEntry → ℕ → List NamedStep → Type 0)
    → (BatchEntry → List NamedStep → Type 0) → ℕ → List ℕ → List (List ℕ) → Result (Option ℕ) Fault → Setting → Setting
    → Type 0
RunsNext command fits whole begun number line tail r t u =
    (all : Batch) (s : Setting) → ReachesLines command fits whole begun all number (line ∷ tail) s t
    → NextEnds command fits whole begun all number tail r s u

-- a call that runs a batch
abbrev pub RunsBatch : (BatchEntry → StepLists) → (BatchEntry → Type 0) → (BatchEntry → ℕ → List NamedStep → Type 0)
    → (BatchEntry → List NamedStep → Type 0) → Result ℕ Fault → Setting → Setting → Type 0
RunsBatch command fits whole begun r s t =
    RunsStepList (batch_step_list command) (λ i. IsHeard true s.left i × AllByRecursion fits
    (batch_of (text_of i)).entries) (WholeBatch whole) (BegunBatch whole begun) r s t

-- an input past the limit was refused with the status 1, or a prefix of that was written
pub record RefusesInput (r : Result ℕ Fault) (err err2 : Option (List ℕ)) (faults faults2 : ℕ) : Type 0 where
  pub says : SaysRefusal (codes "-") TooLong r err err2
  pub later : faults ≤ faults2
  pub cause : r ≡ Err ends.WriteFault → Rose faults faults2
