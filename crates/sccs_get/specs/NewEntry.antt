-- The entry that get -e makes: POSIX, Shell and Utilities, get, -e.
use Rattle.std.specs.Prelude.{ℕ, Bool, not, ◌&&◌, ◌||◌, List, [], ◌∷◌, map, flat_map, Option, None, Some, Result, Ok}
use Rattle.std.specs.List.{list_any}
use Rattle.sccs_sid.specs.Moment.{IsMoment}
use Rattle.sccs_sid.specs.Reading.{◌>>=◌}
use Rattle.sccs_sid.specs.Refusal.{number_of, bad_list_number}
use Rattle.sccs_sid.specs.Sid.{IsComponent}
use Rattle.sccs_sid.specs.declared.moments.Stamp.{Stamp}
use Rattle.sccs_sid.specs.declared.sids.Sid.{Sid}
use Rattle.sccs_sid.specs.declared.sids.Spec.{Spec}
use Rattle.sccs_sid.specs.declared.sids.Spec.TheVariants.{Release}
use Rattle.sccs_sid.specs.declared.sid_lists.Range.{Range}
use Rattle.sccs_sid.specs.declared.refusals.Refusal.{Refusal}
use Rattle.sccs_sid.specs.declared.refusals.Refusal.TheVariants as refusals
use Rattle.sccs_history.specs.FlagText.{flag_j}
use Rattle.sccs_history.specs.History.{same_sid}
use Rattle.sccs_history.specs.declared.headers.Header.{Header}
use Rattle.sccs_history.specs.declared.headers.Record.{Record}
use Rattle.sccs_flags.specs.FlagValues.{has_flag, is_locked_release, is_within_limits}
use Rattle.sccs_flags.specs.Logins.{is_allowed}
use Rattle.sccs_sets.specs.Made.{to_be_made}
use Rattle.sccs_sets.specs.Sets.{sid_at}
use Rattle.sccs_pfile.specs.declared.entries.Edit.{Edit}
use Rattle.sccs_steps.specs.StepEffects.{check, there}
use Rattle.sccs_words.specs.declared.commands.GetWords.{GetWords}
use Rattle.sccs_get.specs.AskedVersion.{asked, spec_asked}
use Rattle.sccs_get.specs.declared.targets.Asked.{Asked}

-- the numbers of the checks on the releases, and on the SID that is to be made
abbrev pub release_checks : List ℕ
release_checks = number_of refusals.OutsideRelease ∷ number_of refusals.LockedRelease ∷ []

abbrev pub sid_checks : List ℕ
sid_checks =
    number_of refusals.OutsideRelease ∷ number_of refusals.LockedRelease ∷ number_of refusals.BeingEdited
    ∷ number_of refusals.GExists ∷ number_of refusals.Full ∷ []

-- the numbers of the checks of get -e
abbrev pub edit_checks : List ℕ
edit_checks =
    number_of refusals.Locked ∷ number_of refusals.Missing ∷ number_of refusals.TooLong
    ∷ number_of refusals.NotSccs ∷ number_of (refusals.BadSum 0 0) ∷ number_of (refusals.BadFormat 0)
    ∷ number_of refusals.Encoded ∷ number_of (refusals.BadPfile 0) ∷ number_of (refusals.Disagree 0)
    ∷ number_of refusals.NotAllowed ∷ number_of refusals.NoSid ∷ bad_list_number ∷ number_of refusals.OutsideRelease
    ∷ number_of refusals.LockedRelease ∷ number_of refusals.BeingEdited ∷ number_of refusals.GExists
    ∷ number_of refusals.Full ∷ number_of (refusals.Changed 0 0 0 0) ∷ []

-- the release of the SID to be made; where no number is left for it, that of the SID got
abbrev pub release_made : Sid → Option Sid → ℕ
release_made got None = got.release
release_made got (Some made) = made.release

-- the releases got and to be made lie from floor to ceiling, and the latter isn't locked
unfoldable pub edit_releases : Header → Sid → Option Sid → Result Bool Refusal
edit_releases header got made = do
  within ← check (is_within_limits header.flags got.release && is_within_limits header.flags (release_made got made))
      refusals.OutsideRelease
  check (not (is_locked_release header.flags (release_made got made))) refusals.LockedRelease

-- an entry got the SID
abbrev pub is_got : List Edit → Sid → Bool
is_got edits got = list_any (λ e. same_sid e.got got) edits

-- the SID to be made, where it may be: several edits of one SID need the flag j, and no g-file that may be written is
-- in the way
unfoldable pub free_sid : Header → List Edit → Bool → Sid → Option Sid → Result Sid Refusal
free_sid header edits in_the_way got made = do
  free ← edit_releases header got made
  joint ← check (has_flag header.flags flag_j || not (is_got edits got)) refusals.BeingEdited
  place ← check (not in_the_way) refusals.GExists
  there made refusals.Full

-- the SIDs that the entries are to make
abbrev pub reserved : List Edit → List Sid
reserved edits = map (λ e. e.made) edits

-- the SIDs of serials, each as a range of its own
abbrev pub single_ranges : Option Sid → List Range
single_ranges None = []
single_ranges (Some sid) = record { first = sid; last = sid } ∷ []

abbrev pub singles : List Record → List ℕ → List Range
singles records serials = flat_map (λ n. single_ranges (sid_at records n)) serials

abbrev pub new_edit : Stamp → List Record → Asked → Sid → Sid → Edit
new_edit stamp records a got made =
    record {
      got = got;
      made = made;
      login = stamp.login;
      moment = stamp.moment;
      include = singles records a.include;
      exclude = singles records a.exclude;
    }

-- the new entry of a login; or the first check that fails
unfoldable pub new_entry : GetWords → Stamp → Header → List Edit → Bool → Result Edit Refusal
new_entry words stamp header edits in_the_way = do
  allowed ← check (is_allowed header.users stamp.login) refusals.NotAllowed
  a ← asked words header
  got ← there (sid_at header.records a.target) refusals.NoSid
  made ← free_sid header edits in_the_way got (to_be_made header (reserved edits) a.target (spec_asked words header)
      words.branch)
  Ok (new_edit stamp header.records a got made)

-- the release that is asked for alone, else the first
abbrev pub release_asked : Option Spec → ℕ
release_asked (Some (Release release)) = release
release_asked spec = 1

-- The release that is asked for and the moment are valid ones.
pub record AreEditValues (words : GetWords) (stamp : Stamp) : Type 0 where
  pub release : IsComponent (release_asked words.spec)
  pub moment : IsMoment stamp.moment
