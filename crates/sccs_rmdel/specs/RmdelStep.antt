-- What rmdel does with the files of a name: POSIX, Shell and Utilities, rmdel. The order of the checks is own.
use Rattle.std.specs.Prelude.{ℕ, true, false, not, List, [], ◌∷◌, None, Some, Result, Ok}
use Rattle.sccs_sid.specs.Reading.{◌>>=◌}
use Rattle.sccs_sid.specs.Refusal.{number_of}
use Rattle.sccs_sid.specs.declared.moments.Stamp.{Stamp}
use Rattle.sccs_sid.specs.declared.sids.Sid.{Sid}
use Rattle.sccs_sid.specs.declared.refusals.Refusal.{Refusal}
use Rattle.sccs_sid.specs.declared.refusals.Refusal.TheVariants as refusals
use Rattle.sccs_flags.specs.Logins.{is_allowed}
use Rattle.sccs_history.specs.Removal.{dropped}
use Rattle.sccs_history.specs.declared.headers.Header.{Header}
use Rattle.sccs_history.specs.declared.headers.Record.{Record}
use Rattle.sccs_name_files.specs.StepFiles.{Files}
use Rattle.sccs_pfile.specs.declared.entries.Edit.{Edit}
use Rattle.sccs_steps.specs.Actions.{Step, quiet_checks}
use Rattle.sccs_steps.specs.StepEffects.{StepEffect, check, there}
use Rattle.sccs_store.specs.SealedFiles.{sealed}
use Rattle.sccs_changes.specs.Changes.{Changing}
use Rattle.sccs_changes.specs.Pending.{Found, pending_of}
use Rattle.sccs_rmdel.specs.Leaves.{is_edited, is_leaf, is_owner, live_delta}
use Rattle.sccs_rmdel.specs.Removed.{without_delta}

-- the numbers of its checks
abbrev pub rmdel_checks : List ℕ
rmdel_checks =
    number_of refusals.Locked ∷ number_of refusals.Missing ∷ number_of refusals.TooLong
    ∷ number_of refusals.NotSccs ∷ number_of (refusals.BadSum 0 0) ∷ number_of (refusals.BadFormat 0)
    ∷ number_of refusals.Encoded ∷ number_of (refusals.BadPfile 0) ∷ number_of (refusals.Disagree 0)
    ∷ number_of refusals.NotAllowed ∷ number_of refusals.NoSid ∷ number_of refusals.BeingEdited
    ∷ number_of refusals.NotTip ∷ number_of refusals.NotOwner ∷ number_of (refusals.Changed 0 0 0 0) ∷ []

-- The live delta of a SID, where a login may remove it: the login may make deltas, no pending edit got or lists the
-- SID, the delta is a leaf, and the login made it or the first delta of the file.
unfoldable pub removable : Sid → Stamp → Header → List Edit → Result Record Refusal
removable sid stamp header edits = do
  allowed ← check (is_allowed header.users stamp.login) refusals.NotAllowed
  delta ← there (live_delta header.records sid) refusals.NoSid
  free ← check (not (is_edited edits sid)) refusals.BeingEdited
  leaf ← check (is_leaf header.records delta) refusals.NotTip
  owner ← check (is_owner header.records delta stamp.login) refusals.NotOwner
  Ok delta

-- the s-file is written anew without the delta; p-file and g-file stay, and nothing is said
abbrev pub removes : Files → Found → Record → StepEffect
removes f found delta = record {
  new = Some (record {
    s = Some (sealed (without_delta delta.serial found.parsed.header) (dropped delta.serial found.parsed.items));
    p = f.p;
    z = None;
    g = f.g;
    l = f.l;
  });
  text = [];
  out = [];
  err = [];
  status = 0;
}

unfoldable pub rmdel_outcome : Sid → Stamp → Step
rmdel_outcome sid stamp n input named f = do
  found ← pending_of f.s f.p
  delta ← removable sid stamp found.parsed.header found.edits
  Ok (removes f found delta)

abbrev pub rmdel_change : Sid → Stamp → Changing
rmdel_change sid stamp = record {
  outcome = rmdel_outcome sid stamp;
  named = λ n. [];
  takes = false;
  silent = true;
  early = false;
  could = quiet_checks rmdel_checks;
}
