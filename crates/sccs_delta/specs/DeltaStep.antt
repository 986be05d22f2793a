-- What delta does with the files of a name and its input: POSIX, Shell and Utilities, delta. The order of the checks is
-- own.
use Rattle.std.specs.Prelude.{ℕ, zero, suc, ◌+◌, ◌-◌, ◌==◌, nat_le, nat_lt, Bool, true, false, not, ◌&&◌, ◌||◌, List}
use Rattle.std.specs.Prelude.{[], ◌∷◌, ◌++◌, length, map, remove, slice_get, Option, None, Some, option_map, unwrap_or}
use Rattle.std.specs.Prelude.{is_none, is_some, min, take, Result, Ok, Err, codes, decimal, if◌then◌else◌}
use Rattle.std.specs.List.{list_any}
use Rattle.sccs_base.specs.Constants.{file_limit}
use Rattle.sccs_base.specs.Cut.{text_of}
use Rattle.sccs_sid.specs.Reading.{◌>>=◌, is_empty}
use Rattle.sccs_sid.specs.Sid.{sid_text}
use Rattle.sccs_sid.specs.declared.moments.Stamp.{Stamp}
use Rattle.sccs_sid.specs.declared.sids.Sid.{Sid}
use Rattle.sccs_sid.specs.declared.refusals.Refusal.{Refusal}
use Rattle.sccs_sid.specs.declared.refusals.Refusal.TheVariants as refusals
use Rattle.sccs_disk.specs.Files.{Content}
use Rattle.sccs_history.specs.FlagText.{flag_i, flag_n, flag_v}
use Rattle.sccs_history.specs.Numbers.{front_if}
use Rattle.sccs_history.specs.Applied.{applied, newest}
use Rattle.sccs_history.specs.Body.{lines_of}
use Rattle.sccs_history.specs.Select.{select}
use Rattle.sccs_history.specs.declared.headers.Flag.{Flag}
use Rattle.sccs_history.specs.declared.headers.Header.{Header}
use Rattle.sccs_history.specs.declared.headers.Item.{Item}
use Rattle.sccs_history.specs.declared.headers.Record.{Record}
use Rattle.sccs_flags.specs.FlagValues.{flag_of, has_flag, is_locked_release, is_within_limits}
use Rattle.sccs_flags.specs.Logins.{is_allowed}
use Rattle.sccs_tokens.specs.Written.{ended}
use Rattle.sccs_script_laws.specs.Places.{places}
use Rattle.sccs_script_laws.specs.Plans.{added_count, plan}
use Rattle.sccs_script_laws.specs.Scripts.{apply}
use Rattle.sccs_script_laws.specs.declared.scripts.Order.{Order}
use Rattle.sccs_script_laws.specs.declared.scripts.Plan.{Plan}
use Rattle.sccs_script.specs.Checks.{checked_script}
use Rattle.sccs_script.specs.Commands.{orders_of}
use Rattle.sccs_script.specs.declared.faults.ScriptFault.{ScriptFault}
use Rattle.sccs_script.specs.declared.faults.ScriptFault.TheVariants as faults
use Rattle.sccs_sets.specs.Naming.{named_serials}
use Rattle.sccs_sets.specs.Retrieved.{serial_of}
use Rattle.sccs_name_files.specs.StepFiles.{Files}
use Rattle.sccs_pfile.specs.Choices.{choice, fits}
use Rattle.sccs_pfile.specs.Recovered.{pfile_of}
use Rattle.sccs_pfile.specs.declared.entries.Edit.{Edit}
use Rattle.sccs_steps.specs.StepEffects.{StepEffect, check, there}
use Rattle.sccs_steps.specs.Actions.{Step}
use Rattle.sccs_store.specs.SealedFiles.{sealed}
use Rattle.sccs_changes.specs.NewEntries.{kept_g, or_no_edit}
use Rattle.sccs_changes.specs.PFiles.{is_short}
use Rattle.sccs_changes.specs.Reports.{warning}
use Rattle.sccs_changes.specs.Pending.{Found, pending_of}
use Rattle.sccs_words.specs.declared.commands.DeltaWords.{DeltaWords}
use Rattle.sccs_records.specs.NewDeltas.{last_of, null_delta, with_delta, with_deltas}
use Rattle.sccs_records.specs.Texts.{some_lines}
use Rattle.sccs_records.specs.declared.new_deltas.Counts.{Counts}
use Rattle.sccs_records.specs.declared.new_deltas.NewDelta.{NewDelta}
use Rattle.sccs_sets.specs.Sets.{both_listed}
use Rattle.sccs_sid.specs.Refusal.{number_of}
use Rattle.sccs_base.specs.Stream.{last_count}
use Rattle.sccs_steps.specs.StepEffects.{Outcome}
use Rattle.sccs_steps.specs.Actions.{has_number}
use Rattle.sccs_changes.specs.Changes.{Changing}
use Rattle.sccs_delta.specs.declared.entries.Base.{Base}
use Rattle.std.specs.Str.{bytes_eq}
use Rattle.sccs_copies.specs.Examining.{first_difference, has_keyword}

-- the numbers of its checks
abbrev pub delta_checks : List ℕ
delta_checks =
    number_of refusals.Locked ∷ number_of refusals.Missing ∷ number_of refusals.TooLong
    ∷ number_of refusals.NotSccs ∷ number_of (refusals.BadSum 0 0) ∷ number_of (refusals.BadFormat 0)
    ∷ number_of refusals.Encoded ∷ number_of (refusals.BadPfile 0) ∷ number_of (refusals.Disagree 0)
    ∷ number_of refusals.NotAllowed ∷ number_of refusals.NoEdit ∷ number_of refusals.ManyEdits
    ∷ number_of refusals.OutsideRelease ∷ number_of refusals.LockedRelease ∷ number_of (refusals.BadScript 0)
    ∷ number_of (refusals.ScriptRange 0 0) ∷ number_of (refusals.BadText 0) ∷ number_of refusals.NoKeywords
    ∷ number_of (refusals.GDiffers 0) ∷ number_of refusals.MrNeeded ∷ number_of refusals.MrNotAllowed
    ∷ number_of (refusals.Unsupported 0) ∷ number_of refusals.Full ∷ number_of (refusals.Changed 0 0 0 0) ∷ []

-- ---- null deltas (sccsfile(4), Flags, n)

-- the first delta of a release of the trunk
abbrev pub first_in_release : ℕ → Sid
first_in_release release = record { release = release; level = 1; branch = 0; sequence = 0 }

abbrev pub is_on_trunk : ℕ → Sid → Bool
is_on_trunk release sid = sid.branch == 0 && sid.release == release

-- some live delta of the trunk is of the release, or one that is reserved
abbrev pub is_used : List Record → List Sid → ℕ → Bool
is_used records reserved release = list_any (λ r. not r.removed && is_on_trunk release r.sid) records || list_any
    (is_on_trunk release) reserved

-- of so many releases, from one on, those without a delta
abbrev pub unused_from : List Record → List Sid → ℕ → ℕ → List Sid
unused_from records reserved release zero = []
unused_from records reserved release (suc count) = front_if (not (is_used records reserved release))
    (first_in_release release) (unused_from records reserved (suc release) count)

-- The SIDs of the null deltas: with the flag n, the first ones of the releases without a delta between those of the
-- SID got and of the SID to be made, where both are on the trunk.
abbrev pub skipped : Header → Sid → Sid → List Sid → List Sid
skipped header got made reserved =
    if has_flag header.flags flag_n && (got.branch == 0 && made.branch == 0) then unused_from header.records reserved
    (suc got.release) (made.release - suc got.release) else []

-- ---- the entry, and its base

abbrev pub or_disagrees : {A : Type 0} → ℕ → Result A Sid → Result A Refusal
or_disagrees number (Ok x) = Ok x
or_disagrees number (Err sid) = Err (refusals.Disagree number)

-- What an entry says by serials: the delta got, those of its lists, and the set whose version is the base. An entry of
-- which the table has no live deltas disagrees.
unfoldable pub entry_base : List Record → ℕ → Edit → Result Base Refusal
entry_base records number edit = do
  got ← there (serial_of records edit.got) (refusals.Disagree number)
  include ← or_disagrees number (named_serials records [] edit.include)
  exclude ← or_disagrees number (named_serials records [] edit.exclude)
  apart ← check (is_none (both_listed records include exclude)) (refusals.Disagree number)
  Ok (record {
    got = got;
    include = include;
    exclude = exclude;
    set = applied (record { target = got; include = include; exclude = exclude; cutoff = None }) records;
  })

-- an entry, by its number from 1, and its base
pub record ChosenEntry : Type 0 where
  pub number : ℕ
  pub edit : Edit
  pub base : Base

-- the releases got and to be made lie from floor to ceiling, and the latter isn't locked
unfoldable pub delta_releases : List Flag → Edit → Result Bool Refusal
delta_releases flags edit = do
  within ← check (is_within_limits flags edit.got.release && is_within_limits flags edit.made.release)
      refusals.OutsideRelease
  check (not (is_locked_release flags edit.made.release)) refusals.LockedRelease

-- the one entry of a login that is let in, whose releases may be used
unfoldable pub chosen_entry : DeltaWords → Stamp → Header → List Edit → Result ChosenEntry Refusal
chosen_entry words stamp header edits = do
  allowed ← check (is_allowed header.users stamp.login) refusals.NotAllowed
  number ← or_no_edit (choice (fits stamp.login words.sid true) edits)
  edit ← there (slice_get edits (number - 1)) refusals.NoEdit
  base ← entry_base header.records number edit
  free ← delta_releases header.flags edit
  Ok (record { number = number; edit = edit; base = base })

-- the lines of the base
abbrev pub base_lines : List Item → Base → List (List ℕ)
base_lines items base = select base.set (lines_of items)

-- ---- checks

abbrev pub or_script_fault : {A : Type 0} → Result A ScriptFault → Result A Refusal
or_script_fault (Ok x) = Ok x
or_script_fault (Err (faults.BadScript line)) = Err (refusals.BadScript line)
or_script_fault (Err (faults.ScriptRange line lines)) = Err (refusals.ScriptRange line lines)
or_script_fault (Err (faults.BadText line)) = Err (refusals.BadText line)
or_script_fault (Err faults.Memory) = Err (refusals.BadScript 0)

abbrev pub or_differs : Option ℕ → Result Bool Refusal
or_differs None = Ok true
or_differs (Some line) = Err (refusals.GDiffers line)

-- where a g-file is there, it is the result
abbrev pub compared : Option Content → List (List ℕ) → Result Bool Refusal
compared None result = Ok true
compared (Some c) result = or_differs (first_difference 0 result (text_of c.bytes))

-- a flag v or i has a text, which would name a program or a keyword
abbrev pub flag_has_text : List Flag → ℕ → Bool
flag_has_text flags letter = unwrap_or (option_map (λ (f : Flag). not (is_empty f.text)) (flag_of flags letter)) false

unfoldable pub mrs_checked : List Flag → List (List ℕ) → Result Bool Refusal
mrs_checked flags mrs = do
  given ← check (not (has_flag flags flag_v && is_empty mrs)) refusals.MrNeeded
  wanted ← check (has_flag flags flag_v || is_empty mrs) refusals.MrNotAllowed
  program ← check (not (flag_has_text flags flag_v)) (refusals.Unsupported flag_v)
  check (not (flag_has_text flags flag_i)) (refusals.Unsupported flag_i)

-- The script fits the base, its result has a keyword where one is wanted, and is the text of the g-file.
unfoldable pub fitted : List Flag → List Order → List (List ℕ) → Option Content → Result Bool Refusal
fitted flags orders base g = do
  fits ← or_script_fault (checked_script orders (length base))
  keywords ← check (not (has_flag flags flag_i) || list_any has_keyword (apply orders base)) refusals.NoKeywords
  compared g (apply orders base)

-- the SIDs of the null deltas, where numbers are left for them and the new one
unfoldable pub nulls_of : Header → List Edit → Edit → Result (List Sid) Refusal
nulls_of header edits edit = do
  left ← check (nat_lt (newest header.records + length (skipped header edit.got edit.made (map (λ e. e.made) edits)))
      65535) refusals.Full
  Ok (skipped header edit.got edit.made (map (λ e. e.made) edits))

-- ---- what is made

-- how many lines a plan inserts and deletes, and how many of the base it leaves
abbrev pub counts_of : Plan → ℕ → Counts
counts_of p lines = record {
  inserted = min (added_count p.added) last_count;
  deleted = length p.deleted;
  unchanged =
      lines - length p.deleted;
}

abbrev pub entry_delta : DeltaWords → Stamp → Edit → List ℕ → List ℕ → Counts → NewDelta
entry_delta words stamp edit include exclude counts =
    record {
      sid = edit.made;
      stamp = stamp;
      include = include;
      exclude = exclude;
      mrs = words.mrs;
      comments =
          some_lines words.comment;
      counts = counts;
    }

-- the null deltas and the new one are put on the table, each on the one before
abbrev pub header_with : Header → ℕ → List NewDelta → NewDelta → Header
header_with header on nulls d = with_delta (with_deltas header on nulls) (last_of on (newest header.records) nulls) d

-- ---- the step

-- a line of the report
abbrev pub count_line : ℕ → List ℕ → List ℕ
count_line n word = decimal n ++ (32 ∷ ended word)

-- the SID, and the counts
abbrev pub delta_report : Bool → Sid → Counts → List ℕ
delta_report silent sid counts =
    if silent then []
    else ended (sid_text sid) ++ (count_line counts.inserted (codes "inserted") ++ (count_line counts.deleted
    (codes "deleted") ++ count_line counts.unchanged (codes "unchanged")))

-- The s-file has the null deltas and the new one, the entry leaves the p-file, and the g-file goes unless it is kept.
abbrev pub makes_delta : DeltaWords → Stamp → List ℕ → Files → Found → ChosenEntry → List Order → List Sid → StepEffect
makes_delta words stamp n f found e orders nulls =
    let header = found.parsed.header in
    let lines = base_lines found.parsed.items e.base in
    let d = entry_delta words stamp e.edit e.base.include e.base.exclude (counts_of (plan orders (length lines))
    (length lines)) in
    record {
      new = Some (record {
        s = Some (sealed (header_with header e.base.got (map (null_delta stamp) nulls) d)
            (places found.parsed.items e.base.set orders (suc (newest header.records + length nulls))));
        p = pfile_of (remove found.edits (e.number - 1));
        z = None;
        g = kept_g words.keep f.g;
        l = f.l;
      });
      text = [];
      out = delta_report words.silent d.sid d.counts;
      err = warning n (list_any has_keyword (apply orders lines));
      status = 0;
    }

-- the sizes of the files and of the input come before any content
unfoldable pub sizes_checked : List ℕ → Files → Result Bool Refusal
sizes_checked input f = do
  s_file ← check (is_some f.s) refusals.Missing
  check (is_short f.s && (is_short f.p && (is_short f.g && nat_le (length input) file_limit))) refusals.TooLong

unfoldable pub delta_outcome : DeltaWords → Stamp → Step
delta_outcome words stamp n input named f = do
  sizes ← sizes_checked input f
  found ← pending_of f.s f.p
  e ← chosen_entry words stamp found.parsed.header found.edits
  orders ← or_script_fault (orders_of input)
  fits ← fitted found.parsed.header.flags orders (base_lines found.parsed.items e.base) f.g
  mrs ← mrs_checked found.parsed.header.flags words.mrs
  nulls ← nulls_of found.parsed.header found.edits e.edit
  Ok (makes_delta words stamp n f found e orders nulls)

-- over any disk: what is said on err is nothing, or that there is no keyword
abbrev pub could_make : Outcome → Bool
could_make (Ok effect) = is_empty effect.err || bytes_eq (codes "WARNING [") (take 9 effect.err)
could_make (Err refusal) = has_number delta_checks (number_of refusal)

abbrev pub delta_change : DeltaWords → Stamp → Changing
delta_change words stamp = record {
  outcome = delta_outcome words stamp;
  named = λ n. [];
  takes = true;
  silent = false;
  early = false;
  could = could_make;
}
