-- Steps that leave an s-file as it is, and where the files of a step stand in a folder.
use Rattle.std.proofs.Common.{◌≡◌, ℕ, Bool, true, false, List, drop, Option, None, Some, Result, Ok, Err, refl, ap}
use Rattle.std.proofs.Common.{subst, ◌∙◌}
use Rattle.std.specs.Prelude.{if◌then◌else◌, is_none, is_some, unwrap_or}
use Rattle.std.specs.Str.{bytes_eq}
use Rattle.sccs_base.specs.Name.{IsSFileName, p_file, z_file}
use Rattle.sccs_disk.specs.Files.{Content, Folder, View, put, view_in}
use Rattle.sccs_disk.proofs.Puts.{put_other, put_same}
use Rattle.sccs_sid.specs.Reading.{◌>>=◌}
use Rattle.sccs_sid.specs.declared.moments.Stamp.{Stamp}
use Rattle.sccs_sid.specs.declared.refusals.Refusal.{Refusal}
use Rattle.sccs_sid.specs.declared.refusals.Refusal.TheVariants.{Locked}
use Rattle.sccs_words.specs.declared.commands.GetWords.{GetWords}
use Rattle.sccs_name_files.specs.StepFiles.{Files, l_file, moved_in}
use Rattle.sccs_name_files.proofs.Folders.{moved_view}
use Rattle.sccs_crash_points.specs.Recovery.{is_kept}
use Rattle.sccs_crash_points.proofs.FileNames.{from_sfile, kept_s}
use Rattle.sccs_changes.specs.NewEntries.{Decided, entries_outcome, kept_g, with_entries}
use Rattle.sccs_changes.specs.Pending.{Found, pending_of}
use Rattle.sccs_steps.specs.Actions.{Step}
use Rattle.sccs_steps.specs.StepEffects.{Outcome, StepEffect, check}
use Rattle.sccs_changes.specs.Changes.{locking_step}
use Rattle.sccs_edit.specs.SactStep.{found_edits, sact_step, shows_entries}
use Rattle.sccs_get.specs.EditStep.{edit_outcome, edit_effect, reserved_of}
use Rattle.sccs_get.specs.SummaryStep.{summary_got, summed, with_l, writes_l}
use Rattle.sccs_get.specs.VersionStep.{get_outcome, get_effect, lines_got, located_of, stays_writable, given_text}
use Rattle.sccs_get.specs.VersionStep.{with_g, writes_g}
use Rattle.sccs_recovery.specs.Checks.{none_pending}
use Rattle.sccs_recovery.specs.RecoverStep.{files_checked, intent_in, recover_outcome, recover_step, recovers}
use Rattle.sccs_recovery.specs.RecoverStep.{recovered_files}

-- the s-file behind a step that makes these files
abbrev pub s_of : Option Content → Option Files → Option Content
s_of s None = s
s_of s (Some f) = f.s

-- what is accepted leaves this s-file
unfoldable pub Leaves : Option Content → Outcome → Type 0
Leaves s o = (d : StepEffect) → o ≡ Ok d → s_of s d.new ≡ s

passed_leaves : {A : Type 0} (s : Option Content) (r : Result A Refusal) (rest : A → Outcome)
    → ((x : A) → Leaves s (rest x)) → Leaves s (r >>= rest)
unfolding Leaves
passed_leaves s (Ok x) rest leaves d is = leaves x d is
passed_leaves s (Err refusal) rest leaves d is = absurd cc

done_leaves : (s : Option Content) (e : StepEffect) → s_of s e.new ≡ s → Leaves s (Ok e)
unfolding Leaves
done_leaves s e kept d is = let same : e ≡ d = cc in subst (λ (x : StepEffect). s_of s x.new ≡ s) same kept

either_leaves : (b : Bool) (s : Option Content) (f : Files) → f.s ≡ s → s_of s (if b then Some f else None) ≡ s
either_leaves true s f kept = kept
either_leaves false s f kept = refl

-- a summary in front
l_leaves : (l : Bool) (summary : List ℕ) (f : Files) (new : Option Files) → s_of f.s new ≡ f.s
    → s_of f.s (if l then Some (with_l summary (unwrap_or new f)) else new) ≡ f.s
l_leaves true summary f None kept = refl
l_leaves true summary f (Some g) kept = kept
l_leaves false summary f new kept = kept

summed_leaves : (words : GetWords) (summary : List ℕ) (f : Files) (d : StepEffect) → s_of f.s d.new ≡ f.s
    → Leaves f.s (Ok (summed words summary f d))
summed_leaves words summary f d kept = done_leaves f.s (summed words summary f d)
    (l_leaves (writes_l words) summary f d.new kept)

-- ---- utilities

pub refused_leaves : (s : Option Content) (refusal : Refusal) → Leaves s (Err refusal)
unfolding Leaves
refused_leaves s refusal d is = absurd cc

pub get_leaves : (words : GetWords) (stamp : Stamp) (place : List ℕ) (heading : Bool) (n : List ℕ) (f : Files)
    → Leaves f.s (get_outcome words stamp place heading n f)
unfolding get_outcome
get_leaves words stamp place heading n f =
    passed_leaves f.s (located_of words stamp place n f) _ (λ x.
    summed_leaves words (summary_got words x.parsed.header.records x.found) f
    (get_effect words heading n x.parsed.header.records f x.found (lines_got x.found x.parsed.items))
    (either_leaves (writes_g words) f.s (with_g f (given_text words x.parsed.header.records x.found
    (lines_got x.found x.parsed.items)) (stays_writable words)) refl))

pub edit_leaves : (words : GetWords) (stamp : Stamp) (place : List ℕ) (heading : Bool) (n input : List ℕ)
    (named : List (Option Content)) (f : Files) → Leaves f.s (edit_outcome words stamp place heading n input named f)
unfolding edit_outcome
edit_leaves words stamp place heading n input named f =
    passed_leaves f.s (reserved_of words stamp place n f) _ (λ x.
    summed_leaves words (summary_got words x.parsed.header.records x.version) f
    (edit_effect words heading n x.parsed.header.records f x.edits x.edit x.version
    (lines_got x.version x.parsed.items)) refl)

pub entries_leave : (decide : List ℕ → Found → Result Decided Refusal) (n input : List ℕ)
    (named : List (Option Content)) (f : Files) → Leaves f.s (entries_outcome decide n input named f)
unfolding entries_outcome
entries_leave decide n input named f =
    passed_leaves f.s (pending_of f.s f.p) _ (λ found.
    passed_leaves f.s (decide n found) _ (λ d. done_leaves f.s (with_entries f d.edits (kept_g d.keep f.g) d.report)
    refl))

pub sact_leaves : (heading : Bool) (n : List ℕ) (f : Files) → Leaves f.s (sact_step heading n f)
unfolding sact_step
sact_leaves heading n f = passed_leaves f.s (found_edits f) _ (λ edits. done_leaves f.s (shows_entries heading n edits)
    refl)

step_leaves : (freed : List ℕ → Bool) (n : List ℕ) (f : Files) → Leaves f.s (recover_step freed n f)
unfolding recover_step
step_leaves freed n f = passed_leaves f.s (files_checked f) _ (λ done. done_leaves f.s (recovers freed n f)
    (either_leaves (is_some f.z) f.s (recovered_files f) refl))

pub recover_leaves : (freed : List ℕ → Bool) (n : List ℕ) (named : List (Option Content)) (f : Files)
    → Leaves f.s (recover_outcome freed n named f)
unfolding recover_outcome
recover_leaves freed n named f = passed_leaves f.s (none_pending (intent_in named)) _ (λ free. step_leaves freed n f)

pub locking_leaves : (outcome : Step) (n input : List ℕ) (named : List (Option Content)) (f : Files)
    → Leaves f.s (outcome n input named f) → Leaves f.s (locking_step outcome n input named f)
unfolding locking_step
locking_leaves outcome n input named f leaves = passed_leaves f.s (check (is_none f.z) Locked) _ (λ free. leaves)

-- ---- folders

-- the s-file of a step's own name
pub own_file : (m : Folder) (n : List ℕ) (new : Option Files) → view_in (moved_in m n new) n ≡ s_of (view_in m n) new
own_file m n None = refl
own_file m n (Some f) =
    ap (λ (v : View). v n) (moved_view m n (Some f))
    ∙ put_same (put (put (put (put (view_in m) (l_file n) f.l) (z_file n) f.z) (drop 2 n) f.g) (p_file n) f.p) n f.s

-- that of another name
pub other_file : (m : Folder) (k n : List ℕ) (new : Option Files) → IsSFileName n → is_kept (drop 2 k) ≡ false
    → bytes_eq k n ≡ false → view_in (moved_in m k new) n ≡ view_in m n
other_file m k n None sfile plain apart = refl
other_file m k n (Some f) sfile plain apart =
    let l : View = put (view_in m) (l_file k) f.l in
    let z : View = put l (z_file k) f.z in
    let g : View = put z (drop 2 k) f.g in
    let p : View = put g (p_file k) f.p in
    ap (λ (v : View). v n) (moved_view m k (Some f))
    ∙ (put_other p k n f.s apart
    ∙ (put_other g (p_file k) n f.p (from_sfile 112 k n sfile refl)
    ∙ (put_other z (drop 2 k) n f.g (kept_s (drop 2 k) n plain sfile)
    ∙ (put_other l (z_file k) n f.z (from_sfile 122 k n sfile refl)
    ∙ put_other (view_in m) (l_file k) n f.l (from_sfile 108 k n sfile refl)))))
