-- What the parts of a delta answer before its files are written.
use Rattle.std.specs.Prelude.{◌≡◌, ℕ, ◌-◌, Bool, true, not, ◌||◌, List, length, Option, Some, slice_get, Result, Ok}
use Rattle.std.specs.Prelude.{Err}
use Rattle.std.specs.List.{list_any}
use Rattle.sccs_disk.specs.Files.{Content}
use Rattle.sccs_sid.specs.Reading.{◌>>=◌}
use Rattle.sccs_sid.specs.declared.moments.Stamp.{Stamp}
use Rattle.sccs_sid.specs.declared.refusals.Refusal.{Refusal}
use Rattle.sccs_sid.specs.declared.refusals.Refusal.TheVariants as refusals
use Rattle.sccs_sid.specs.declared.refusals.StepFault.{StepFault}
use Rattle.sccs_sid.specs.declared.refusals.StepFault.TheVariants.{Refused, Memory, ReadFault, WriteFault, DiskFault}
use Rattle.sccs_history.specs.FlagText.{flag_i}
use Rattle.sccs_history.specs.declared.headers.Flag.{Flag}
use Rattle.sccs_history.specs.declared.headers.Header.{Header}
use Rattle.sccs_flags.specs.FlagValues.{has_flag}
use Rattle.sccs_script_laws.specs.Scripts.{apply}
use Rattle.sccs_script_laws.specs.declared.scripts.Order.{Order}
use Rattle.sccs_script.specs.Checks.{checked_script}
use Rattle.sccs_script.specs.Commands.{orders_of}
use Rattle.sccs_script.specs.declared.faults.ScriptFault.{ScriptFault}
use Rattle.sccs_script.specs.declared.faults.ScriptFault.TheVariants as faults
use Rattle.sccs_sets.specs.declared.faults.SetFault.{SetFault}
use Rattle.sccs_sets.specs.declared.faults.SetFault.TheVariants as sets
use Rattle.sccs_steps.specs.StepEffects.{check}
use Rattle.sccs_pfile.specs.declared.entries.Edit.{Edit}
use Rattle.sccs_words.specs.declared.commands.DeltaWords.{DeltaWords}
use Rattle.sccs_changes.specs.PFiles.{is_short}
use Rattle.sccs_delta.specs.DeltaStep.{compared, chosen_entry, fitted, mrs_checked, or_differs, or_script_fault}
use Rattle.sccs_copies.specs.Examining.{has_keyword}
use Rattle.sccs_delta.specs.declared.entries.Asked.{Asked}
use Rattle.sccs_delta.specs.declared.entries.Chosen.{Chosen}
use Rattle.sccs_copies.specs.declared.examining.Found.{Found}

-- an entry whose list names no live deltas disagrees
abbrev pub list_fault : ℕ → SetFault → StepFault
list_fault number (sets.BadList sid) = Refused (refusals.Disagree number)
list_fault number sets.Memory = Memory

-- how delta refuses a script
abbrev pub script_refusal : ScriptFault → StepFault
script_refusal (faults.BadScript line) = Refused (refusals.BadScript line)
script_refusal (faults.ScriptRange line lines) = Refused (refusals.ScriptRange line lines)
script_refusal (faults.BadText line) = Refused (refusals.BadText line)
script_refusal faults.Memory = Memory

-- the entry that is found, with its base; of want of memory nothing is said
abbrev pub FindsEntry : DeltaWords → Stamp → Header → List Edit → Result Chosen StepFault → Type 0
FindsEntry words stamp header edits (Ok c) =
    (edit : Edit) × (slice_get edits (c.number - 1) ≡ Some edit) × (chosen_entry words stamp header edits ≡ Ok
    (record { number = c.number; edit = edit; base = c.base }))
FindsEntry words stamp header edits (Err (Refused refusal)) = chosen_entry words stamp header edits ≡ Err refusal
FindsEntry words stamp header edits (Err Memory) = Unit {0}
FindsEntry words stamp header edits (Err DiskFault) = Unit {0}
FindsEntry words stamp header edits (Err ReadFault) = ⊥
FindsEntry words stamp header edits (Err WriteFault) = ⊥

-- what is judged of what a reading found
unfoldable pub judged_script : List Flag → List Order → Found → Result Bool Refusal
judged_script flags orders found = do
  fits ← or_script_fault (checked_script orders found.lines)
  keywords ← check (not (has_flag flags flag_i) || found.keyword) refusals.NoKeywords
  or_differs found.differs

-- What a reading found of a base, and, where a script fits it, of the result.
pub record FindsBase (orders : List Order) (base : List (List ℕ)) (g : Option Content) (found : Found) : Type 0 where
  pub lines : found.lines ≡ length base
  pub keyword : checked_script orders (length base) ≡ Ok tt → found.keyword ≡ list_any has_keyword (apply orders base)
  pub differs : checked_script orders (length base) ≡ Ok tt → is_short g ≡ true → or_differs found.differs ≡ compared g
      (apply orders base)

-- the same, or no fault of the file
abbrev pub ReadsBase : List Order → List (List ℕ) → Option Content → Result Found StepFault → Type 0
ReadsBase orders base g (Ok found) = FindsBase orders base g found
ReadsBase orders base g (Err (Refused refusal)) = ⊥
ReadsBase orders base g (Err Memory) = Unit {0}
ReadsBase orders base g (Err DiskFault) = Unit {0}
ReadsBase orders base g (Err ReadFault) = ⊥
ReadsBase orders base g (Err WriteFault) = ⊥

-- What a reading found of the result of a script that fits its base.
pub record FindsFit (orders : List Order) (base : List (List ℕ)) (found : Found) : Type 0 where
  pub lines : found.lines ≡ length base
  pub keyword : found.keyword ≡ list_any has_keyword (apply orders base)

-- the checks are passed, and this was found; or one of them fails
abbrev pub FitsBy : Result Bool Refusal → List Order → List (List ℕ) → Result Found StepFault → Type 0
FitsBy checks orders base (Ok found) = (checks ≡ Ok true) × FindsFit orders base found
FitsBy checks orders base (Err (Refused refusal)) = checks ≡ Err refusal
FitsBy checks orders base (Err Memory) = Unit {0}
FitsBy checks orders base (Err DiskFault) = Unit {0}
FitsBy checks orders base (Err ReadFault) = ⊥
FitsBy checks orders base (Err WriteFault) = ⊥

-- the script fits, or a check fails
abbrev pub FitsScript : List Flag → List Order → List (List ℕ) → Option Content → Result Found StepFault → Type 0
FitsScript flags orders base g result = FitsBy (fitted flags orders base g) orders base result

-- the script fits, and the MRs are as the flag v asks
abbrev pub script_fits : List Flag → List (List ℕ) → List Order → List (List ℕ) → Option Content → Result Bool Refusal
script_fits flags mrs orders base g = fitted flags orders base g >>= λ fits. mrs_checked flags mrs

-- the entry that is found and the orders of the script; of want of memory nothing is said
abbrev pub FindsAsked : DeltaWords → Stamp → Header → List Edit → List ℕ → Result Asked StepFault → Type 0
FindsAsked words stamp header edits i (Ok a) = FindsEntry words stamp header edits (Ok a.chosen)
    × (or_script_fault (orders_of i) ≡ Ok a.script)
FindsAsked words stamp header edits i (Err (Refused refusal)) = (chosen_entry words stamp header edits
    >>= λ e. or_script_fault (orders_of i)) ≡ Err refusal
FindsAsked words stamp header edits i (Err Memory) = Unit {0}
FindsAsked words stamp header edits i (Err DiskFault) = Unit {0}
FindsAsked words stamp header edits i (Err ReadFault) = ⊥
FindsAsked words stamp header edits i (Err WriteFault) = ⊥
