-- What import does with a name that is to become an s-file: it gets the trunk of the RCS file beside it. rcsfile(5);
-- sccsfile(4).
use Rattle.std.specs.Prelude.{ℕ, Bool, false, List, [], ◌∷◌, ◌++◌, drop, length, nat_le, codes, Option, None, Some}
use Rattle.std.specs.Prelude.{is_none, Result, Ok, Err}
use Rattle.std.specs.Fmt.{decimal}
use Rattle.sccs_base.specs.Constants.{file_limit}
use Rattle.sccs_sid.specs.Reading.{◌>>=◌}
use Rattle.sccs_sid.specs.Refusal.{number_of}
use Rattle.sccs_sid.specs.declared.refusals.Refusal.{Refusal}
use Rattle.sccs_sid.specs.declared.refusals.Refusal.TheVariants as refusals
use Rattle.sccs_disk.specs.Files.{Content}
use Rattle.sccs_name_files.specs.StepFiles.{Files}
use Rattle.sccs_tokens.specs.Written.{ended}
use Rattle.sccs_steps.specs.Actions.{Step, quiet_checks}
use Rattle.sccs_steps.specs.StepEffects.{Outcome, check}
use Rattle.sccs_store.specs.SealedFiles.{sealed}
use Rattle.sccs_changes.specs.Changes.{Changing}
use Rattle.sccs_changes.specs.Reports.{heading_text}
use Rattle.sccs_trunks.specs.TrunkHistories.{history_of}
use Rattle.sccs_trunks.specs.TrunkItems.{items_of}
use Rattle.sccs_trunks.specs.declared.revisions.Rcs.{Rcs}
use Rattle.sccs_rcs_file.specs.Trunk.{rcs_read}
use Rattle.sccs_rcs_file.specs.declared.faults.RcsFault.{RcsFault}
use Rattle.sccs_rcs_file.specs.declared.faults.RcsFault.TheVariants.{BadRcs, BadRevision, RcsScript, Memory}

-- the refusals of import, by their numbers
abbrev pub import_checks : List ℕ
import_checks =
    number_of refusals.Locked ∷ number_of refusals.Missing ∷ number_of refusals.Exists ∷ number_of refusals.TooLong
    ∷ number_of (refusals.BadRcs 0) ∷ number_of (refusals.BadRevision 0) ∷ number_of (refusals.RcsScript 0 0) ∷ []

-- the RCS file of a name: that of the module, and `,v`
abbrev pub rcs_file : List ℕ → List ℕ
rcs_file n = drop 2 n ++ 44 ∷ 118 ∷ []

-- the bytes of the file that is named
abbrev pub named_bytes : List (Option Content) → Result (List ℕ) Refusal
named_bytes (Some c ∷ named) = Ok c.bytes
named_bytes _ = Err refusals.Missing

-- the refusal of a fault; want of memory is none of those that reading as it is defined gives
abbrev pub refusal_of : RcsFault → Refusal
refusal_of (BadRcs byte) = refusals.BadRcs byte
refusal_of (BadRevision n) = refusals.BadRevision n
refusal_of (RcsScript n line) = refusals.RcsScript n line
refusal_of Memory = refusals.BadRcs 0

abbrev pub or_refused : Result Rcs RcsFault → Result Rcs Refusal
or_refused (Ok rcs) = Ok rcs
or_refused (Err fault) = Err (refusal_of fault)

-- the trunk of the RCS file, where the s-file isn't there; or the first check that fails
unfoldable pub found_rcs : List (Option Content) → Option Content → Result Rcs Refusal
found_rcs named s = do
  bytes ← named_bytes named
  fresh ← check (is_none s) refusals.Exists
  short ← check (nat_le (length bytes) file_limit) refusals.TooLong
  or_refused (rcs_read bytes)

-- the s-file of a trunk: its history
abbrev pub rcs_content : Rcs → Content
rcs_content rcs = sealed (history_of rcs).header (items_of (history_of rcs).lines)

-- how many revisions came
abbrev pub import_report : Bool → List ℕ → Rcs → List ℕ
import_report heading n rcs = heading_text heading n ++ (decimal (length rcs.revisions) ++ ended (codes " revisions"))

-- the new s-file, and all else as it was
abbrev pub imports : Bool → List ℕ → Files → Rcs → Outcome
imports heading n f rcs =
    Ok (record {
      new = Some (record { s = Some (rcs_content rcs); p = f.p; z = None; g = f.g; l = f.l });
      text = [];
      out = import_report heading n rcs;
      err = [];
      status = 0;
    })

-- a new s-file of the trunk, where the checks pass
unfoldable pub import_outcome : Bool → Step
import_outcome heading n input named f = do
  rcs ← found_rcs named f.s
  imports heading n f rcs

abbrev pub import_change : Bool → Changing
import_change heading =
    record {
      outcome = import_outcome heading;
      named = λ n. rcs_file n ∷ [];
      takes = false;
      silent = false;
      early =
          false;
      could = quiet_checks import_checks;
    }
