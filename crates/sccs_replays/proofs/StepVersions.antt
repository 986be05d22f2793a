-- What the step of each command makes of the versions of an s-file.
use Rattle.std.proofs.Common.{◌≡◌, ◌==◌, ◌||◌, ℕ, zero, suc, ◌-◌, ◌<◌, ◌≤◌, Bool, true, false, List, [], ◌∷◌, drop}
use Rattle.std.proofs.Common.{length, nat_le, Option, None, Some, Result, Ok, Err, refl, sym, ap, subst, ◌∙◌, ⊎_elim}
use Rattle.std.proofs.Common.{arith}
use Rattle.std.specs.Prelude.{IfSome, if◌then◌else◌, is_none, is_some, map}
use Rattle.std.proofs.lemmas.Bool.{eqb-true, or_cases, or_right}
use Rattle.sccs_base.specs.Constants.{file_limit}
use Rattle.sccs_base.specs.Login.{IsLogin}
use Rattle.sccs_base.specs.Name.{p_file, z_file}
use Rattle.sccs_disk.specs.Files.{Content, Folder, view_in}
use Rattle.sccs_intents.specs.Intents.{intent_file}
use Rattle.sccs_sid.specs.Moment.{IsMoment}
use Rattle.sccs_sid.specs.declared.refusals.Refusal.{Refusal}
use Rattle.sccs_sid.specs.declared.refusals.Refusal.TheVariants as refusals
use Rattle.sccs_sid.specs.declared.moments.Stamp.{Stamp}
use Rattle.sccs_sid.specs.declared.sids.Sid.{Sid}
use Rattle.sccs_history.specs.Applied.{live_serials, newest, version}
use Rattle.sccs_history.specs.Body.{lines_of}
use Rattle.sccs_history.specs.History.{AreLines, is_rooted, same_sid}
use Rattle.sccs_history.specs.Numbers.{has}
use Rattle.sccs_history.specs.declared.headers.Header.{Header}
use Rattle.sccs_records.specs.NewDeltas.{last_of, with_deltas}
use Rattle.sccs_sets.proofs.Living.{newest_live}
use Rattle.sccs_changes.specs.Pending.{Found, pending_of}
use Rattle.sccs_delta.specs.NullDeltas.{null_deltas, skipped_by}
use Rattle.sccs_copies.proofs.FileReads.{file_keeps}
use Rattle.sccs_rmdel.specs.Removed.{removed_records}
use Rattle.sccs_rmdel.proofs.KeptVersions.{left_live}
use Rattle.sccs_rmdel.proofs.Roots.{first_rooted, last_live, rooted_in_turn}
use Rattle.sccs_rmdel.specs.NewVersions.{RemovesDelta}
use Rattle.sccs_rmdel.specs.RmdelStep.{rmdel_outcome}
use Rattle.sccs_rmdel.proofs.RemovedVersions.{removal_made}
use Rattle.sccs_grammar.specs.File.{Parsed}
use Rattle.sccs_words.specs.declared.commands.AdminWords.{AdminWords}
use Rattle.sccs_words.specs.declared.commands.CdcWords.{CdcWords}
use Rattle.sccs_words.specs.declared.commands.Command.{Command}
use Rattle.sccs_words.specs.declared.commands.Command.TheVariants as c
use Rattle.sccs_words.specs.declared.commands.DeltaWords.{DeltaWords}
use Rattle.sccs_words.specs.declared.commands.GetWords.{GetWords}
use Rattle.sccs_words.specs.declared.commands.ValWords.{ValWords}
use Rattle.sccs_name_files.specs.StepFiles.{Files, l_file, look}
use Rattle.sccs_steps.specs.Actions.{Action, KeepsFiles, Step}
use Rattle.sccs_steps.specs.StepEffects.{Outcome, StepEffect, check}
use Rattle.sccs_changes.specs.Changes.{locking, locking_step}
use Rattle.sccs_admin.specs.AdminStep.{admin_change, admin_outcome, found_texts, named_in}
use Rattle.sccs_admin.specs.Texts.{named_by}
use Rattle.sccs_alter.specs.AlterStep.{alter_change, alter_outcome}
use Rattle.sccs_alter.specs.CheckStep.{check_action, check_keeps}
use Rattle.sccs_alter.specs.CdcStep.{cdc_outcome}
use Rattle.sccs_delta.specs.DeltaStep.{delta_outcome, sizes_checked}
use Rattle.sccs_delta.specs.NewVersions.{MakesVersions, delta_on, version_text}
use Rattle.sccs_delta.specs.Replays.{CallRead, DeltaCall, Texts, call_read, files_at}
use Rattle.sccs_delta.proofs.AddedVersions.{versions_made}
use Rattle.sccs_changes.proofs.Chains.{passed}
use Rattle.sccs_edit.specs.UngetStep.{unget_decides}
use Rattle.sccs_edit.specs.Keeps.{pending_keeps}
use Rattle.sccs_edit.specs.PendingStep.{pending_action}
use Rattle.sccs_get.specs.EditStep.{edit_change, edit_outcome}
use Rattle.sccs_get.specs.VersionStep.{get_action}
use Rattle.sccs_prs.specs.Keeps.{prs_keeps}
use Rattle.sccs_prs.specs.PrsStep.{prs_action}
use Rattle.sccs_trunks.specs.TrunkHistories.{down, history_of, text_behind}
use Rattle.sccs_trunks.specs.TrunkItems.{items_of}
use Rattle.sccs_trunks.specs.declared.revisions.Rcs.{Rcs}
use Rattle.sccs_trunks.proofs.TrunkVersions.{live_down}
use Rattle.sccs_rcs_file.specs.Trunk.{rcs_read}
use Rattle.sccs_rcs_file.specs.declared.faults.RcsFault.{RcsFault}
use Rattle.sccs_rcs.specs.ImportStep.{found_rcs, import_outcome, imports, named_bytes, or_refused, rcs_content}
use Rattle.sccs_rcs.specs.ImportStep.{rcs_file}
use Rattle.sccs_rcs.proofs.ImportedFiles.{import_again, import_version, rooted_import}
use Rattle.sccs_val.proofs.RunLaws.{val_keeps}
use Rattle.sccs_val.specs.ValStep.{val_action}
use Rattle.sccs_what.specs.Checks.{what_keeps}
use Rattle.sccs_what.specs.WhatStep.{what_action}
use Rattle.sccs_soak.specs.Dropping.{dropped, dropped_effect}
use Rattle.sccs_top.specs.Runs.{Caller, action_of, admin_there, has_heading, hushed, single_of, val_words_of}
use Rattle.sccs_top.specs.MadeHistories.{IsReplayed}
use Rattle.sccs_top.proofs.AdminValues.{admin_values}
use Rattle.sccs_top.proofs.MadeHistoryLaws.{made_replayed}
use Rattle.sccs_replays.specs.PastRuns.{HasVersions, IsOfVersions, call_in, first_version, imported_versions}
use Rattle.sccs_replays.specs.PastRuns.{versions_after_command, texts_with_delta, with_read}
use Rattle.sccs_replays.proofs.AlteredVersions.{altered_goes, same_file}
use Rattle.sccs_replays.proofs.ChangedVersions.{changed_goes}
use Rattle.sccs_replays.proofs.LeftFiles.{Leaves, edit_leaves, entries_leave, get_leaves, locking_leaves}
use Rattle.sccs_replays.proofs.LeftFiles.{recover_leaves, refused_leaves, s_of, sact_leaves}
use Rattle.sccs_replays.proofs.LiveVersions.{follows_on}
use Rattle.sccs_delta.proofs.Replaying.{read_is}
use Rattle.sccs_replays.proofs.MeantValues.{HasMeantValues}

-- where files are made, an s-file of these versions becomes one of those
abbrev pub Goes : Option Content → Option Files → Texts → Texts → Type 0
Goes s new texts after = HasVersions s texts → HasVersions (s_of s new) (if is_some new then after else texts)

goes_left : (s : Option Content) (new : Option Files) (texts : Texts) → s_of s new ≡ s → Goes s new texts texts
goes_left s None texts kept are = are
goes_left s (Some f) texts kept are = subst (λ (o : Option Content). HasVersions o texts) (sym kept) are

left : (s : Option Content) (o : Outcome) (d : StepEffect) (texts : Texts) → Leaves s o → o ≡ Ok d
    → Goes s d.new texts texts
unfolding Leaves
left s o d texts leaves is = goes_left s d.new texts (leaves d is)

-- ---- locks

none_there : (z : Option Content) (free : Bool) → check (is_none z) refusals.Locked ≡ Ok free → z ≡ None
none_there None free is = refl
none_there (Some c) free is = absurd cc

-- what is accepted had no z-file
unlocked_step : (outcome : Step) (n i : List ℕ) (named : List (Option Content)) (f : Files) (d : StepEffect)
    → locking_step outcome n i named f ≡ Ok d → (f.z ≡ None) × (outcome n i named f ≡ Ok d)
unfolding locking_step
unlocked_step outcome n i named f d is =
    let free = passed (check (is_none f.z) refusals.Locked) _ d is in
    (none_there f.z free.0 free.1, free.2)

-- ---- delta

-- without an s-file it is refused
missing : (s : Option Content) (found : Bool) → s ≡ None → check (is_some s) refusals.Missing ≡ Ok found → ⊥
missing None found none is = cc
missing (Some c) found none is = cc

sized_is : (i : List ℕ) (f : Files) (sized : Bool) → sizes_checked i f ≡ Ok sized → f.s ≡ None → ⊥
unfolding sizes_checked
sized_is i f sized is none = let there = passed (check (is_some f.s) refusals.Missing) _ sized is in
    missing f.s there.0 none there.1

needs_file : (words : DeltaWords) (who : Caller) (n i : List ℕ) (f : Files) (d : StepEffect)
    → delta_outcome words who.stamp n i [] f ≡ Ok d → f.s ≡ None → ⊥
unfolding delta_outcome
needs_file words who n i f d is none = let sized = passed (sizes_checked i f) _ d is in
    sized_is i f sized.0 sized.1 none

-- a new delta and the null deltas before it are made on live ones
rooted_behind : (call : DeltaCall) (s : Content) (d : StepEffect) (made : MakesVersions call.words call.stamp call.input
    (files_at s call) s d) → is_rooted made.before.header.records ≡ true → is_rooted made.after.header.records ≡ true
rooted_behind call s d made rooted =
    let got = made.entry.base.got in
    let nulls = null_deltas call.stamp (skipped_by made.before.header made.edits made.entry.edit) in
    let live : has (0 ∷ live_serials made.before.header.records) got ≡ true =
    or_right (0 == got) (has (live_serials made.before.header.records) got)
    (newest_live (λ sid. same_sid sid made.entry.edit.got) made.before.header.records got made.base.got) in
    subst (λ (h : Header). is_rooted h.records ≡ true) (sym made.header)
    (rooted_in_turn (with_deltas made.before.header got nulls) (last_of got (newest made.before.header.records) nulls)
    (delta_on call.words call.stamp made.before made.entry made.orders ∷ [])
    (rooted_in_turn made.before.header got nulls rooted live) (last_live made.before.header got nulls live))

-- the new s-file has the versions with those of the call
delta_made : (n : List ℕ) (call : DeltaCall) (s : Content) (d : StepEffect) (texts : Texts)
    → MakesVersions call.words call.stamp call.input (files_at s call) s d → Goes (Some s) d.new texts
    (with_read (call_read s call) texts)
delta_made n call s d texts made are =
    let read : CallRead = record { file = made.before; edits = made.edits; entry = made.entry; orders = made.orders } in
    let same : are.file ≡ made.before = same_file s.bytes are.file made.before are.reads made.was in
    let follows = follows_on call s d texts made (subst (λ (file : Parsed). (m : ℕ)
    → has (live_serials file.header.records) m ≡ true → version_text file m ≡ texts m) same are.versions) in
    subst (λ (new : Option Files). HasVersions (s_of (Some s) new) (if is_some new then with_read
    (call_read s call) texts else texts)) (sym made.files)
    (record {
      file = made.after;
      reads = made.reads;
      rooted = rooted_behind call s d made (subst (λ (file : Parsed). is_rooted file.header.records ≡ true) same
          are.rooted);
      versions = λ m live. follows m live ∙ ap (λ r. with_read r texts m) (sym (read_is s call d made));
    })

delta_goes : (who : Caller) (words : DeltaWords) (i n : List ℕ) (m : Folder) (texts : Texts) (d : StepEffect)
    → IsMoment who.stamp.moment → IsLogin who.stamp.login → HasMeantValues (c.Delta words n)
    → locking_step (delta_outcome words who.stamp) n i [] (look (view_in m) n) ≡ Ok d → Goes (view_in m n) d.new texts
    (texts_with_delta (view_in m n) (call_in who words i m n) texts)
delta_goes who words i n m texts d moment login values is = by (view_in m n) refl
  where
    call : DeltaCall
    call = call_in who words i m n

    parts : (view_in m (z_file n) ≡ None) × (delta_outcome words who.stamp n i [] (look (view_in m) n) ≡ Ok d)
    parts = unlocked_step (delta_outcome words who.stamp) n i [] (look (view_in m) n) d is

    files : (s z : Option Content) → Files
    files s z = record { s = s; p = view_in m (p_file n); z = z; g = view_in m (drop 2 n); l = view_in m (l_file n) }

    by : (s : Option Content) → view_in m n ≡ s → Goes (view_in m n) d.new texts
        (texts_with_delta (view_in m n) call texts)
    by None none = absurd (needs_file words who n i (look (view_in m) n) d parts.1 none)
    by (Some s) there =
        subst (λ (o : Option Content). Goes o d.new texts (texts_with_delta o call texts)) (sym there)
        (delta_made n call s d texts (versions_made words who.stamp moment login values.0 values.1 n i
        (files_at s call) s d refl
        (sym (ap (λ (o : Option Content). delta_outcome words who.stamp n i [] (files o (view_in m (z_file n)))) there
        ∙ ap (λ (o : Option Content). delta_outcome words who.stamp n i [] (files (Some s) o)) parts.0) ∙ parts.1)))

-- ---- rmdel

-- without an s-file it is refused
found_is : (s p : Option Content) (found : Found) → pending_of s p ≡ Ok found → s ≡ None → ⊥
unfolding pending_of
found_is s p found is none = let there = passed (check (is_some s) refusals.Missing) _ found is in
    missing s there.0 none there.1

needs_removed : (sid : Sid) (stamp : Stamp) (n i : List ℕ) (f : Files) (d : StepEffect)
    → rmdel_outcome sid stamp n i [] f ≡ Ok d → f.s ≡ None → ⊥
unfolding rmdel_outcome
needs_removed sid stamp n i f d is none = let found = passed (pending_of f.s f.p) _ d is in
    found_is f.s f.p found.0 found.1 none

-- each delta that lives on has its version
rmdel_made : (sid : Sid) (stamp : Stamp) (f : Files) (s : Content) (d : StepEffect) (texts : Texts)
    → RemovesDelta sid stamp f s d → Goes (Some s) d.new texts texts
rmdel_made sid stamp f s d texts made are =
    let same : are.file ≡ made.before = same_file s.bytes are.file made.before are.reads made.was in
    let rooted : is_rooted made.before.header.records ≡ true = subst (λ (file : Parsed). is_rooted file.header.records
    ≡ true) same are.rooted in
    let was = subst (λ (file : Parsed). (m : ℕ) → has (live_serials file.header.records) m ≡ true
    → version_text file m ≡ texts m) same are.versions in
    subst (λ (new : Option Files). HasVersions (s_of (Some s) new) (if is_some new then texts else texts))
    (sym made.files)
    (record {
      file = made.after;
      reads = made.reads;
      rooted = made.out.rooted rooted;
      versions = λ m live.
          let left : has (live_serials (removed_records made.delta.serial made.before.header.records)) m ≡ true =
          ap (λ (h : Header). has (live_serials h.records) m) (sym made.out.header) ∙ live in
          ap (λ (h : Header). version m h.records (lines_of made.after.items)) made.out.header
          ∙ (ap (version m (removed_records made.delta.serial made.before.header.records)) made.out.lines
          ∙ ((made.out.versions rooted).versions m left
          ∙ was m (left_live made.delta.serial m made.before.header.records left).1));
    })

rmdel_goes : (who : Caller) (sid : Sid) (i n : List ℕ) (m : Folder) (texts : Texts) (d : StepEffect)
    → locking_step (rmdel_outcome sid who.stamp) n i [] (look (view_in m) n) ≡ Ok d
    → Goes (view_in m n) d.new texts texts
rmdel_goes who sid i n m texts d is = by (view_in m n) refl
  where
    parts : (view_in m (z_file n) ≡ None) × (rmdel_outcome sid who.stamp n i [] (look (view_in m) n) ≡ Ok d)
    parts = unlocked_step (rmdel_outcome sid who.stamp) n i [] (look (view_in m) n) d is

    by : (s : Option Content) → view_in m n ≡ s → Goes (view_in m n) d.new texts texts
    by None none = absurd (needs_removed sid who.stamp n i (look (view_in m) n) d parts.1 none)
    by (Some s) there =
        subst (λ (o : Option Content). Goes o d.new texts texts) (sym there) (rmdel_made sid who.stamp
        (look (view_in m) n) s d texts (removal_made sid who.stamp n i [] (look (view_in m) n) s d there parts.1))

-- ---- cdc

cdc_goes : (who : Caller) (words : CdcWords) (i n : List ℕ) (m : Folder) (texts : Texts) (d : StepEffect)
    → IsLogin who.stamp.login → AreLines words.mrs × IfSome words.comment AreLines
    → locking_step (cdc_outcome words who.stamp) n i [] (look (view_in m) n) ≡ Ok d
    → Goes (view_in m n) d.new texts texts
cdc_goes who words i n m texts d login values is =
    changed_goes words who.stamp n i [] (look (view_in m) n) texts d
    (record { mrs = values.0; comment = values.1; login = login })
    (unlocked_step (cdc_outcome words who.stamp) n i [] (look (view_in m) n) d is).1

-- ---- admin

only_first : (m : ℕ) → has (1 ∷ []) m ≡ true → m ≡ 1
only_first m live = sym (eqb-true 1 m (without_false (1 == m) live))
  where
    without_false : (b : Bool) → (b || false) ≡ true → b ≡ true
    without_false true is = refl
    without_false false is = is

admin_goes : (who : Caller) (words : AdminWords) (i n : List ℕ) (named : List (Option Content)) (f : Files)
    (texts : Texts) (d : StepEffect) → IsMoment who.stamp.moment → IsLogin who.stamp.login
    → HasMeantValues (c.Admin words (record { words = []; from_input = false }))
    → admin_outcome words who.stamp n i named f ≡ Ok d
    → Goes f.s d.new texts (first_version (found_texts words i named f.s))
admin_goes who words i n named f texts d moment login values is are =
    let made : IsReplayed words n i named f d [] = made_replayed words who.stamp n i named f d []
    (admin_values words who.stamp values.0 moment) login values.1 values.2 is tt in
    subst (λ (new : Option Files). HasVersions (s_of f.s new) (if is_some new then first_version
    (found_texts words i named f.s) else texts)) (sym made.made)
    (record {
      file = made.file;
      reads = made.reads;
      rooted = first_rooted made.file.header.records (file_keeps made.s.bytes made.file made.reads).header.rules.table
          made.only;
      versions = λ m live. ap (version_text made.file)
          (only_first m (subst (λ (live_ones : List ℕ). has live_ones m ≡ true) made.only live))
          ∙ (made.first ∙ ap (λ r. first_version r m) (sym made.found));
    })

-- ---- import

-- the serials of a trunk
has_down : (k m : ℕ) → has (down k) m ≡ true → (0 < m) × (m ≤ k)
has_down zero m is = absurd cc
has_down (suc k) m is =
    ⊎_elim (λ t. let same : suc k ≡ m = eqb-true (suc k) m t in (omega (arith, same), omega (arith, same)))
    (λ t. let below = has_down k m t in (below.0, omega (arith, below.1)))
    (or_cases (suc k == m) (has (down k) m) is)

-- the trunk that was found is that of some bytes
found_read : (named : List (Option Content)) (s : Option Content) (rcs : Rcs) → found_rcs named s ≡ Ok rcs
    → (bytes : List ℕ) × (rcs_read bytes ≡ Ok rcs)
unfolding found_rcs
found_read named s rcs is =
    let bytes = passed (named_bytes named) _ rcs is in
    let fresh = passed (check (is_none s) refusals.Exists) _ rcs bytes.2 in
    let short = passed (check (nat_le (length bytes.0) file_limit) refusals.TooLong) _ rcs fresh.2 in
    (bytes.0, read_ok (rcs_read bytes.0) rcs short.2)
  where
    read_ok : (r : Result Rcs RcsFault) (rcs : Rcs) → or_refused r ≡ Ok rcs → r ≡ Ok rcs
    read_ok (Ok found) rcs is = let same : found ≡ rcs = cc in ap Ok same
    read_ok (Err fault) rcs is = absurd cc

-- the new s-file has the texts of the trunk
trunk_made : (bytes : List ℕ) (rcs : Rcs) → rcs_read bytes ≡ Ok rcs → IsOfVersions (rcs_content rcs)
    (imported_versions (Ok rcs))
trunk_made bytes rcs is = record {
  file = record { header = (history_of rcs).header; items = items_of (history_of rcs).lines };
  reads = import_again bytes rcs is;
  rooted = rooted_import rcs;
  versions = λ m live.
      let within = has_down (length rcs.revisions) m (subst (λ (ns : List ℕ). has ns m ≡ true)
      (live_down (history_of rcs).lines rcs.revisions) live) in
      let back : length rcs.revisions - (length rcs.revisions - m) ≡ m = omega (arith, within.1) in
      subst (λ (k : ℕ). version k (history_of rcs).header.records (lines_of (items_of (history_of rcs).lines))
      ≡ text_behind (length rcs.revisions - m) rcs) back
      (import_version bytes rcs (length rcs.revisions - m) is (omega (arith, within.0, within.1)));
}

import_goes : (heading : Bool) (i n : List ℕ) (m : Folder) (texts : Texts) (d : StepEffect)
    → locking_step (import_outcome heading) n i (view_in m (rcs_file n) ∷ []) (look (view_in m) n) ≡ Ok d
    → Goes (view_in m n) d.new texts (imported_versions (found_rcs (view_in m (rcs_file n) ∷ []) (view_in m n)))
unfolding import_outcome
import_goes heading i n m texts d is are =
    let found = passed (found_rcs (view_in m (rcs_file n) ∷ []) (view_in m n)) (imports heading n (look (view_in m) n))
    d
    (unlocked_step (import_outcome heading) n i (view_in m (rcs_file n) ∷ []) (look (view_in m) n) d is).1 in
    let read = found_read (view_in m (rcs_file n) ∷ []) (view_in m n) found.0 found.1 in
    let new : Some (record {
      s = Some (rcs_content found.0);
      p = view_in m (p_file n);
      z = None;
      g =
          view_in m (drop 2 n);
      l = view_in m (l_file n);
    }) ≡ d.new = made_new heading n (look (view_in m) n) found.0 d
    found.2 in
    subst (λ (files : Option Files). HasVersions (s_of (view_in m n) files) (if is_some files then imported_versions
    (found_rcs (view_in m (rcs_file n) ∷ []) (view_in m n)) else texts)) new
    (subst (λ (r : Result Rcs Refusal). IsOfVersions (rcs_content found.0) (imported_versions r)) (sym found.1)
    (trunk_made read.0 found.0 read.1))
  where
    new_of : Outcome → Option Files
    new_of (Ok e) = e.new
    new_of (Err refusal) = None

    made_new : (heading : Bool) (n : List ℕ) (f : Files) (rcs : Rcs) (d : StepEffect) → imports heading n f rcs ≡ Ok d
        → Some (record { s = Some (rcs_content rcs); p = f.p; z = None; g = f.g; l = f.l }) ≡ d.new
    made_new heading n f rcs d is = ap new_of is

-- ---- commands

refused : (m : Folder) (n : List ℕ) (texts : Texts) (d : StepEffect) → (let o : Outcome = Err refusals.BadName in o)
    ≡ Ok d → Goes (view_in m n) d.new texts texts
refused m n texts d is = left (view_in m n) (Err refusals.BadName) d texts
    (refused_leaves (view_in m n) refusals.BadName) is

-- what only reads leaves the s-file
reading_goes : (x : Action) (i n : List ℕ) (m : Folder) (texts : Texts) (d : StepEffect) → KeepsFiles x → x.reads ≡ true
    → x.step n i (map (view_in m) (x.named n)) (look (view_in m) n) ≡ Ok d → Goes (view_in m n) d.new texts texts
reading_goes x i n m texts d keeps reads is =
    subst (λ (new : Option Files). Goes (view_in m n) new texts texts)
    (sym (keeps.quiet reads n i (map (view_in m) (x.named n)) (look (view_in m) n) d is)) (λ are. are)

-- admin on an s-file that is there leaves its versions
there_goes : (check : Bool) (words : AdminWords) (i n : List ℕ) (m : Folder) (texts : Texts) (d : StepEffect)
    → (let x : Action = if check then check_action else locking (alter_change words) in
    x.step n i (map (view_in m) (x.named n)) (look (view_in m) n) ≡ Ok d) → Goes (view_in m n) d.new texts texts
there_goes true words i n m texts d is = reading_goes check_action i n m texts d check_keeps refl is
there_goes false words i n m texts d is =
    altered_goes words n i (map (view_in m) (named_by words.description)) (look (view_in m) n) texts d
    (unlocked_step (alter_outcome words) n i (map (view_in m) (named_by words.description)) (look (view_in m) n) d is).1

-- the action of admin, and the versions after it
admin_by : (fresh : Bool) (who : Caller) (words : AdminWords) (i n : List ℕ) (m : Folder) (texts : Texts)
    (d : StepEffect) → IsMoment who.stamp.moment → IsLogin who.stamp.login
    → HasMeantValues (c.Admin words (record { words = []; from_input = false }))
    → (let x : Action = if fresh then locking (admin_change words who.stamp) else admin_there words in
    x.step n i (map (view_in m) (x.named n)) (look (view_in m) n) ≡ Ok d)
    → Goes (view_in m n) d.new texts (if fresh then first_version
    (found_texts words i (map (view_in m) (named_in words)) (view_in m n)) else texts)
admin_by true who words i n m texts d moment login values is =
    admin_goes who words i n (map (view_in m) (named_in words)) (look (view_in m) n) texts d moment login values
    (unlocked_step (admin_outcome words who.stamp) n i (map (view_in m) (named_in words)) (look (view_in m) n) d is).1
admin_by false who words i n m texts d moment login values is = there_goes words.check words i n m texts d is

get_by : (edit : Bool) (who : Caller) (words : GetWords) (heading : Bool) (i n : List ℕ) (m : Folder) (texts : Texts)
    (d : StepEffect)
    → (let x : Action = if edit then locking (edit_change words who.stamp who.place heading)
    else get_action words who.stamp who.place heading in x.step n i (map (view_in m) (x.named n))
    (look (view_in m) n) ≡ Ok d)
    → Goes (view_in m n) d.new texts texts
get_by true who words heading i n m texts d is =
    left (view_in m n) _ d texts (locking_leaves (edit_outcome words who.stamp who.place heading) n i []
    (look (view_in m) n) (edit_leaves words who.stamp who.place heading n i [] (look (view_in m) n))) is
get_by false who words heading i n m texts d is = left (view_in m n) _ d texts
    (get_leaves words who.stamp who.place heading n (look (view_in m) n)) is

by_goes : (who : Caller) (command : Command) (i n : List ℕ) (m : Folder) (texts : Texts) (d : StepEffect)
    → IsMoment who.stamp.moment → IsLogin who.stamp.login → HasMeantValues command
    → ((single_of command).by who).step n i (map (view_in m) (((single_of command).by who).named n))
    (look (view_in m) n) ≡ Ok d → Goes (view_in m n) d.new texts (versions_after_command who command i m n texts)
by_goes who (c.Admin words operands) i n m texts d moment login values is =
    admin_by words.fresh who words i n m texts d moment login values is
by_goes who (c.Get words operands) i n m texts d moment login values is = get_by words.edit who words
    (has_heading operands) i n m texts d is
by_goes who (c.Delta words name) i n m texts d moment login values is = delta_goes who words i n m texts d moment login
    values is
by_goes who (c.Unget words operands) i n m texts d moment login values is =
    left (view_in m n) _ d texts (locking_leaves _ n i [] (look (view_in m) n)
    (entries_leave (unget_decides words who.stamp (has_heading operands)) n i [] (look (view_in m) n))) is
by_goes who (c.Sact operands) i n m texts d moment login values is = left (view_in m n) _ d texts
    (sact_leaves (has_heading operands) n (look (view_in m) n)) is
by_goes who (c.Tell operands) i n m texts d moment login values is = reading_goes (pending_action false) i n m texts d
    (pending_keeps false) refl is
by_goes who (c.Check operands) i n m texts d moment login values is = reading_goes (pending_action true) i n m texts d
    (pending_keeps true) refl is
by_goes who (c.Rmdel sid operands) i n m texts d moment login values is = rmdel_goes who sid i n m texts d is
by_goes who (c.Cdc words operands) i n m texts d moment login values is = cdc_goes who words i n m texts d login values
    is
by_goes who (c.Prs words operands) i n m texts d moment login values is = reading_goes (prs_action words who.place) i n
    m texts d (prs_keeps words who.place) refl is
by_goes who (c.Val words) i n m texts d moment login values is = reading_goes (val_action words) i n m texts d
    (val_keeps words (λ name. None)) refl is
by_goes who (c.What first operands) i n m texts d moment login values is =
    reading_goes (what_action first) i n m texts d (what_keeps first) refl is
by_goes who (c.Recover operands) i n m texts d moment login values is = left (view_in m n) _ d texts
    (recover_leaves who.freed n (map (view_in m) (intent_file ∷ [])) (look (view_in m) n)) is
by_goes who (c.Import operands) i n m texts d moment login values is = import_goes (has_heading operands) i n m texts d
    is
by_goes who c.Group i n m texts d moment login values is = refused m n texts d is
by_goes who c.Batch i n m texts d moment login values is = refused m n texts d is
by_goes who (c.Soak number) i n m texts d moment login values is = refused m n texts d is

-- the same where the output is dropped
dropped_goes : (s : Option Content) (texts after : Texts) (o : Outcome) (d : StepEffect) → ((e : StepEffect) → o ≡ Ok e
    → Goes s e.new texts after) → dropped o ≡ Ok d → Goes s d.new texts after
dropped_goes s texts after (Ok e) d goes is = subst (λ (new : Option Files). Goes s new texts after)
    (let same : dropped_effect e ≡ d = cc in ap (λ (x : StepEffect). x.new) same) (goes e refl)
dropped_goes s texts after (Err refusal) d goes is = absurd cc

hushed_goes : (val : Option ValWords) (quiet : Bool) (x : Action) (i n : List ℕ) (m : Folder) (texts after : Texts)
    (d : StepEffect) → ((e : StepEffect) → x.step n i (map (view_in m) (x.named n)) (look (view_in m) n) ≡ Ok e
    → Goes (view_in m n) e.new texts after)
    → (hushed val quiet x).step n i (map (view_in m) ((hushed val quiet x).named n)) (look (view_in m) n) ≡ Ok d
    → Goes (view_in m n) d.new texts after
hushed_goes (Some words) quiet x i n m texts after d goes is = goes d is
hushed_goes None true x i n m texts after d goes is = dropped_goes (view_in m n) texts after
    (x.step n i (map (view_in m) (x.named n)) (look (view_in m) n)) d goes is
hushed_goes None false x i n m texts after d goes is = goes d is

pub command_goes : (who : Caller) (command : Command) (i n : List ℕ) (m : Folder) (texts : Texts) (d : StepEffect)
    → IsMoment who.stamp.moment → IsLogin who.stamp.login → HasMeantValues command
    → (action_of who command).step n i (map (view_in m) ((action_of who command).named n)) (look (view_in m) n) ≡ Ok d
    → Goes (view_in m n) d.new texts (versions_after_command who command i m n texts)
command_goes who command i n m texts d moment login values is =
    hushed_goes (val_words_of command) who.quiet ((single_of command).by who) i n m texts
    (versions_after_command who command i m n texts) d (λ e made. by_goes who command i n m texts e moment login
    values made) is
