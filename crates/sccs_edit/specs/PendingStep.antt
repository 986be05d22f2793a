-- What tell and check do: whether a name has pending edits, or all of them. They read the p-file alone.
use Rattle.std.specs.Prelude.{◌≡◌, ℕ, Bool, true, false, ◌&&◌, not, List, [], ◌∷◌, drop, Option, None, Some, Result, Ok}
use Rattle.std.specs.Prelude.{Err, IfSome, if◌then◌else◌}
use Rattle.sccs_base.specs.Name.{is_sfile_name}
use Rattle.sccs_base.specs.Stream.{GivesOk, GivesSome}
use Rattle.sccs_disk.specs.Files.{View}
use Rattle.sccs_sid.specs.Reading.{◌>>=◌, is_empty}
use Rattle.sccs_sid.specs.declared.refusals.StepFault.{StepFault}
use Rattle.sccs_sid.specs.declared.refusals.StepFault.TheVariants.{Memory, WriteFault}
use Rattle.sccs_name_files.specs.StepFiles.{Files, look}
use Rattle.sccs_tokens.specs.Written.{ended}
use Rattle.sccs_pfile.specs.declared.entries.Edit.{Edit}
use Rattle.sccs_steps.specs.Actions.{Action, quiet_checks}
use Rattle.sccs_steps.specs.Calls.{Meets, world}
use Rattle.sccs_steps.specs.StepEffects.{Outcome, StepEffect}
use Rattle.sccs_steps.specs.declared.statuses.StatusRule.TheVariants.{Greatest}
use Rattle.sccs_edit.specs.SactStep.{edit_lines, found_edits, sact_checks}

-- there is an entry
abbrev pub has_entry : List Edit → Bool
has_entry edits = not (is_empty edits)

-- the status: check's is 1 where an entry was found
abbrev pub pending_status : Bool → Bool → ℕ
pending_status whole found = if whole && found then 1 else 0

-- the module name and LF, where there is an entry
abbrev pub module_line : List ℕ → List Edit → List ℕ
module_line n [] = []
module_line n (e ∷ edits) = ended (drop 2 n)

-- check prints a line for each entry, as sact does; tell the module name
abbrev pub pending_text : Bool → List ℕ → List Edit → List ℕ
pending_text whole n edits = if whole then edit_lines edits else module_line n edits

-- the text is printed, and no file changes
abbrev pub shows_pending : Bool → List ℕ → List Edit → StepEffect
shows_pending whole n edits = record {
  new = None;
  text = pending_text whole n edits;
  out = [];
  err = [];
  status =
      pending_status whole (has_entry edits);
}

-- what is done with the files of a name
unfoldable pub pending_step : Bool → List ℕ → Files → Outcome
pending_step whole n f = do
  edits ← found_edits f
  Ok (shows_pending whole n edits)

-- what is done with an operand
abbrev pub pending_action : Bool → Action
pending_action whole = record {
  fits = is_sfile_name;
  step = λ n input named files. pending_step whole n files;
  named = λ n. [];
  takes = false;
  reads = true;
  locks = true;
  silent = false;
  rule = Greatest;
  could = quiet_checks sact_checks;
}

-- what printing entries answers and writes
abbrev pub PrintsPending : Bool → List ℕ → List Edit → Option (List ℕ) → Option (List ℕ) → Result Bool StepFault
    → Type 0
PrintsPending whole n edits a b (Ok found) = GivesOk a b (pending_text whole n edits) × (found ≡ has_entry edits)
PrintsPending whole n edits a b (Err Memory) = b ≡ a
PrintsPending whole n edits a b (Err WriteFault) = GivesSome a b (pending_text whole n edits)
PrintsPending whole n edits a b (Err _) = ⊥

-- what the call for a name answers and writes, where the disk tells its files
abbrev pub MeetsPending : Bool → List ℕ → Result Bool StepFault → Option View → Option View → Option (List ℕ)
    → Option (List ℕ) → Type 0
MeetsPending whole n r told told2 out out2 =
    IfSome told (λ v. (err : Option (List ℕ)) → Meets (pending_status whole) r n (pending_step whole n (look v n))
    (world (Some v) out err) (world told2 out2 err))
