-- What cdc does with the files of a name: the MRs and the comment of one delta are changed. SCCS has it, and POSIX
-- lacks it.
-- The order of the checks is own.
use Rattle.std.specs.Prelude.{ℕ, not, ◌||◌, false, true, List, [], ◌∷◌, Result, Ok}
use Rattle.sccs_sid.specs.Reading.{◌>>=◌, is_empty}
use Rattle.sccs_sid.specs.Refusal.{number_of}
use Rattle.sccs_sid.specs.declared.moments.Stamp.{Stamp}
use Rattle.sccs_sid.specs.declared.refusals.Refusal.{Refusal}
use Rattle.sccs_sid.specs.declared.refusals.Refusal.TheVariants as refusals
use Rattle.sccs_flags.specs.FlagValues.{has_flag}
use Rattle.sccs_flags.specs.Logins.{is_allowed}
use Rattle.sccs_history.specs.FlagText.{flag_v}
use Rattle.sccs_history.specs.declared.headers.Header.{Header}
use Rattle.sccs_history.specs.declared.headers.Record.{Record}
use Rattle.sccs_steps.specs.Actions.{Step, quiet_checks}
use Rattle.sccs_steps.specs.StepEffects.{check, there}
use Rattle.sccs_store.specs.SealedFiles.{sealed}
use Rattle.sccs_changes.specs.Changes.{Changing}
use Rattle.sccs_words.specs.declared.commands.CdcWords.{CdcWords}
use Rattle.sccs_rmdel.specs.Leaves.{is_owner, live_delta}
use Rattle.sccs_admin.specs.AdminStep.{makes}
use Rattle.sccs_admin.specs.Rules.{has_text}
use Rattle.sccs_alter.specs.CheckStep.{checked_file}
use Rattle.sccs_alter.specs.Changes.{given_lines, with_changes}
use Rattle.sccs_alter.specs.declared.changes.TextChanges.{TextChanges}

-- the numbers of its checks
abbrev pub cdc_checks : List ℕ
cdc_checks =
    number_of refusals.Locked ∷ number_of refusals.Missing ∷ number_of refusals.TooLong
    ∷ number_of refusals.NotSccs ∷ number_of (refusals.BadSum 0 0) ∷ number_of (refusals.BadFormat 0)
    ∷ number_of refusals.Encoded ∷ number_of refusals.NotAllowed ∷ number_of refusals.NoSid
    ∷ number_of refusals.MrNotAllowed ∷ number_of (refusals.Unsupported 0) ∷ number_of refusals.NotOwner
    ∷ number_of (refusals.Changed 0 0 0 0) ∷ []

-- The live delta of a SID, where a login may change what is said of it: the login may make deltas, MRs are given only
-- where the flag v is set, and names no program, and the login made the delta or the first one of the file.
unfoldable pub changeable : CdcWords → Stamp → Header → Result Record Refusal
changeable words stamp header = do
  allowed ← check (is_allowed header.users stamp.login) refusals.NotAllowed
  delta ← there (live_delta header.records words.sid) refusals.NoSid
  wanted ← check (has_flag header.flags flag_v || is_empty words.mrs) refusals.MrNotAllowed
  program ← check (is_empty words.mrs || not (has_text header.flags flag_v)) (refusals.Unsupported flag_v)
  owner ← check (is_owner header.records delta stamp.login) refusals.NotOwner
  Ok delta

-- what the words change
abbrev pub text_changes : CdcWords → TextChanges
text_changes words = record { mrs = words.mrs; comment = given_lines words.comment }

-- the header with what is said of the delta, or the check that fails
unfoldable pub changed_header : CdcWords → Stamp → Header → Result Header Refusal
changed_header words stamp header = do
  delta ← changeable words stamp header
  Ok (with_changes (text_changes words) stamp delta.serial header)

-- the s-file is written anew with that header, also where nothing is changed; its body, p-file and g-file stay, and
-- nothing is said
unfoldable pub cdc_outcome : CdcWords → Stamp → Step
cdc_outcome words stamp n input named f = do
  parsed ← checked_file f.s
  header ← changed_header words stamp parsed.header
  makes (sealed header parsed.items) f

abbrev pub cdc_change : CdcWords → Stamp → Changing
cdc_change words stamp = record {
  outcome = cdc_outcome words stamp;
  named = λ n. [];
  takes = false;
  silent = true;
  early = false;
  could = quiet_checks cdc_checks;
}
