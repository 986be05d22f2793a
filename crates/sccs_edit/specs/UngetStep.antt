-- What unget does: POSIX, Shell and Utilities, unget.
use Rattle.sccs_sid.specs.Refusal.{number_of}
use Rattle.sccs_sid.specs.declared.refusals.Refusal.TheVariants as refusals
use Rattle.std.specs.Prelude.{ℕ, ◌-◌, Bool, false, List, [], ◌∷◌, ◌++◌, remove, Result, Ok, if◌then◌else◌}
use Rattle.sccs_sid.specs.Reading.{◌>>=◌}
use Rattle.sccs_sid.specs.declared.moments.Stamp.{Stamp}
use Rattle.sccs_sid.specs.declared.refusals.Refusal.{Refusal}
use Rattle.sccs_tokens.specs.Written.{ended}
use Rattle.sccs_pfile.specs.Choices.{choice, fits}
use Rattle.sccs_pfile.specs.declared.entries.Edit.{Edit}
use Rattle.sccs_steps.specs.Actions.{quiet_checks}
use Rattle.sccs_changes.specs.Changes.{Changing}
use Rattle.sccs_words.specs.declared.commands.UngetWords.{UngetWords}
use Rattle.sccs_changes.specs.NewEntries.{Decided, entries_outcome, made_text, or_no_edit}
use Rattle.sccs_changes.specs.Pending.{Found}
use Rattle.sccs_changes.specs.Reports.{heading_text}

-- the numbers of its checks
abbrev pub unget_checks : List ℕ
unget_checks =
    number_of refusals.Locked ∷ number_of refusals.Missing ∷ number_of refusals.TooLong
    ∷ number_of refusals.NotSccs ∷ number_of (refusals.BadSum 0 0) ∷ number_of (refusals.BadFormat 0)
    ∷ number_of refusals.Encoded ∷ number_of (refusals.BadPfile 0) ∷ number_of (refusals.Disagree 0)
    ∷ number_of refusals.NoEdit ∷ number_of refusals.ManyEdits ∷ []

-- the SID that was to be made, unless nothing is to be said
abbrev pub unget_report : UngetWords → Bool → List ℕ → List Edit → ℕ → List ℕ
unget_report words heading n edits number = if words.silent then [] else heading_text heading n ++ ended
    (made_text edits number)

-- the number of the entry that the login means: the one that is to make the SID, where one is given
abbrev pub login_entry : UngetWords → Stamp → List Edit → Result ℕ Refusal
login_entry words stamp edits = or_no_edit (choice (fits stamp.login words.sid false) edits)

-- the p-file without the entry of a number
abbrev pub without_entry : UngetWords → Bool → List ℕ → List Edit → ℕ → Decided
without_entry words heading n edits number =
    record { edits = remove edits (number - 1); keep = words.keep; report = unget_report words heading n edits number }

-- the entry leaves the p-file, and the g-file is removed unless it is kept
unfoldable pub unget_decides : UngetWords → Stamp → Bool → List ℕ → Found → Result Decided Refusal
unget_decides words stamp heading n found = do
  number ← login_entry words stamp found.edits
  Ok (without_entry words heading n found.edits number)

abbrev pub unget_change : UngetWords → Stamp → Bool → Changing
unget_change words stamp heading = record {
  outcome = entries_outcome (unget_decides words stamp heading);
  named =
      λ n. [];
  takes = false;
  silent = false;
  early = false;
  could = quiet_checks unget_checks;
}
