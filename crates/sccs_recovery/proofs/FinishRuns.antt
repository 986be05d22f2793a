-- A call that finishes a group follows its list of steps.
use Rattle.std.proofs.Common.{◌≡◌, ◌⊎◌, ℕ, suc, Bool, true, false, List, [], ◌∷◌, map, Option, None, Some, option_map}
use Rattle.std.proofs.Common.{IfSome, Result, Ok, Err, inl, inr, refl, sym, ap, subst, ◌∙◌, ⊎_elim, arith}
use Rattle.std.specs.Str.{bytes_eq}
use Rattle.sccs_base.specs.Name.{sfile_name_decides}
use Rattle.sccs_base.proofs.Gifts.{gives_none, some_none}
use Rattle.sccs_disk.specs.Causes.{DiskCauses}
use Rattle.sccs_disk.proofs.Puts.{name_cases}
use Rattle.sccs_disk.specs.Files.{Content, Folder, Model, View, view_in, view_of}
use Rattle.sccs_disk.specs.Images.{Allows}
use Rattle.sccs_disk.specs.Told.{Told, Tells, seen}
use Rattle.sccs_name_files.specs.StepFiles.{Alike, Shows}
use Rattle.sccs_name_files.specs.Touches.{Each, Touching}
use Rattle.sccs_intents.specs.Intents.{AreOthers, entries_in, has_name, intent_file, plan_file}
use Rattle.sccs_intents.specs.declared.intents.IntentEntry.{IntentEntry}
use Rattle.sccs_crash_points.specs.CrashPoints.{EndsAfter}
use Rattle.sccs_crash_points.specs.Recovery.{RecoversAs, without_name}
use Rattle.sccs_crash_points.specs.Unlocked.{BeginsUnlockedBut, KeepsOthers}
use Rattle.sccs_crash_points.proofs.Recovering.{recovers_back, recovers_then}
use Rattle.sccs_crash_points.proofs.Untouched.{before_after}
use Rattle.sccs_steps.specs.Calls.{scene, world}
use Rattle.sccs_steps.specs.Causes.{RunCauses, counts}
use Rattle.sccs_steps.specs.ListStops.{AreSafe, KeepsSafe, KeepsSafeFrom, MayBegin, Spares}
use Rattle.sccs_steps.specs.StepLists.{AreAllCleared, NamedStep, ShowsNext, step_in}
use Rattle.sccs_steps.specs.declared.faults.Fault.{Fault}
use Rattle.sccs_steps.specs.declared.faults.Fault.TheVariants as ends
use Rattle.sccs_steps.proofs.OneCrashPoint.{Alikes, one_after, one_before, one_within}
use Rattle.sccs_steps.proofs.SafeImages.{told_once}
use Rattle.sccs_steps.proofs.Safety.{keeps_same}
use Rattle.sccs_step_lists.specs.StepLists.{AllClear, AllExempt, AllSafe}
use Rattle.sccs_step_lists.specs.Following.{AreKnown, StepListCrashPoints, RunsStepList, RunsTo, SpeaksTo}
use Rattle.sccs_step_lists.proofs.StepListCrashPointLaws.{step_list_crash_points}
use Rattle.sccs_store.specs.Commits.{Becomes}
use Rattle.sccs_group.specs.Finishing.{CanFinish, Completes, Finishes}
use Rattle.sccs_group.specs.Halfway.{IsHalfway, intended, is_own_of_group}
use Rattle.sccs_group.specs.Members.{completed}
use Rattle.sccs_group.proofs.Found.{bare_entries}
use Rattle.sccs_group.proofs.Intended.{intended_members}
use Rattle.sccs_group.proofs.OtherNames.{begin_but}
use Rattle.sccs_steps.specs.Unlocked.{AreExempt}
use Rattle.sccs_group.specs.declared.members.Member.{Member}
use Rattle.sccs_group.specs.Recovering.{IsBad, IsWellFormed, bare, finished_by, group_finished}
use Rattle.sccs_group.specs.Ended.{IsCutOff, IsFinished, LosesPlan}
use Rattle.sccs_recovery.specs.FinishingEnds.{BegunFinishing, FinishEnds, FinishOthers, IsLeft, WholeFinishing}
use Rattle.sccs_recovery.specs.FinishStep.{finishing_action, finishing_step_list, finishing_portion, finishing_step}
use Rattle.sccs_recovery.specs.FinishStep.{is_formed, name_part}
use Rattle.sccs_recovery.proofs.FinishShown.{IsBegun, completed_cleared, finished_in, formed_alike, formed_by}
use Rattle.sccs_recovery.proofs.FinishShown.{half_alike, not_bad, own_fates, plan_alike, plan_cleared, same_intent}
use Rattle.sccs_recovery.proofs.FinishShown.{same_pairs, still_by}
use Rattle.sccs_recovery.proofs.FinishStops.{after_of, are_safe, can_finish, follow_images, plan_before, plan_images}
use Rattle.sccs_recovery.proofs.FinishStops.{within_of}
use Rattle.sccs_recovery.proofs.FinishViews.{IntentCase, Formed, Unformed, finished, finished_formed, finished_recovers}
use Rattle.sccs_recovery.proofs.FinishViews.{finished_safe, finished_unformed, intent_case, step_is}
use Rattle.sccs_recovery.proofs.Moved.{SamePairs}
use Rattle.sccs_recovery.proofs.NameFiles.{count_of}
use Rattle.std.proofs.lemmas.Bool.{or_from}

-- ---- a view that is told

some_view : (o : Option View) (w : List ℕ → Bool) (v : View) → Shows w o v → (u : View) × (o ≡ Some u) × Alike w u v
some_view None w v shows = absurd shows
some_view (Some u) w v shows = (u, refl, shows)

told_is : (o : Option View) (u : View) (P : View → Type 0) → o ≡ Some u → IfSome o P → P u
told_is o u P is told = subst (λ (x : Option View). IfSome x P) is told

shown_as : (w : List ℕ → Bool) (o : Option View) (x v : View) → o ≡ Some x → Alike w x v → Shows w o v
shown_as w o x v is alike = subst (λ (y : Option View). Shows w y v) (sym is) alike

cleared_as : (w : List ℕ → Bool) (a b : Option View) (u x : View) → a ≡ Some u → b ≡ Some x → ((k : List ℕ) → w k ≡ true
    → (x k ≡ None) ⊎ (x k ≡ u k)) → AreAllCleared w a b
cleared_as w a b u x old new cleared = subst (λ (o : Option View). AreAllCleared w o b) (sym old)
    (subst (λ (o : Option View). AreAllCleared w (Some u) o) (sym new) cleared)

-- ---- how far it came

-- What is known of a call: the disk tells u, working files are the folder's, and the names are clear.
record IsCalled (w : List ℕ → Bool) (folder : Folder) (a : Told) : Type 0 where
  u : View
  told : seen a ≡ Some u
  begun : IsBegun w u (view_in folder)

called : (w : List ℕ → Bool) (folder : Folder) (a : Told) → Spares w
    → AllClear w (finishing_portion (view_in folder) ∷ []) → Shows w (seen a) (view_in folder) → IsCalled w folder a
called w folder a spares clear shows =
    let found = some_view (seen a) w (view_in folder) shows in
    record {
      u = found.0;
      told = found.1;
      begun =
          record { spares = spares; plan = clear.0.plan refl; alike = found.2; clear = clear.0.names };
    }

-- the view at the end
after_shown : (w : List ℕ → Bool) (folder : Folder) (x : View) → Alike w x (finished (view_in folder))
    → Alike w x (view_in (step_in folder (finishing_step (view_in folder))))
after_shown w folder x alike = subst (λ (y : View). Alike w x y) (sym (finished_in folder)) alike

-- What is left where the call was made: the view, but for working files, which are gone or as they were.
record IsDone (w : List ℕ → Bool) (v u : View) (o : Option View) : Type 0 where
  x : View
  is : o ≡ Some x
  alike : Alike w x (finished v)
  cleared : (k : List ℕ) → w k ≡ true → (x k ≡ None) ⊎ (x k ≡ u k)

-- where no intent has its form the plan alone goes
plan_done : (w : List ℕ → Bool) (v u : View) (o : Option View) → IsBegun w u v → is_formed (v intent_file) ≡ false
    → entries_in (v intent_file) ≡ [] → o ≡ Some (without_name plan_file u) → IsDone w v u o
plan_done w v u o begun unformed none is = record {
  x = without_name plan_file u;
  is = is;
  alike = subst (λ (y : View). Alike w (without_name plan_file u) y) (sym (finished_unformed v unformed none))
      (plan_alike w u v begun);
  cleared = λ k free. plan_cleared u k;
}

becomes_is : (f : View → View) (a b : Option View) (u : View) → a ≡ Some u → Becomes f a b → b ≡ Some (f u)
becomes_is f a b u is becomes = becomes ∙ ap (λ (o : Option View). option_map f o) is

-- where it is finished whole
whole_done : (w : List ℕ → Bool) (v u : View) (a b : Told) → IsBegun w u v → seen a ≡ Some u → IsFinished a b
    → (is_formed (v intent_file) ≡ true → RecoversAs v u) → IsDone w v u (seen b)
whole_done w v u a b begun told done recovers = by (intent_case (v intent_file))
  where
    becomes : seen b ≡ Some (group_finished u)
    becomes = becomes_is group_finished (seen a) (seen b) u told done.view

    well : IsWellFormed (v intent_file)
    well = subst IsWellFormed (same_intent w u v begun) (told_is (seen a) u (λ (x : View). IsWellFormed (x intent_file))
        told done.form)

    by : IntentCase (v intent_file) → IsDone w v u (seen b)
    by (Formed es formed is others) =
        let view : group_finished u ≡ completed (bare es) (without_name plan_file u) =
        ap (λ (o : Option Content). finished_by o (without_name plan_file u)) (same_intent w u v begun)
        ∙ formed_by (v intent_file) (without_name plan_file u) es formed is in
        record {
          x = completed (bare es) (without_name plan_file u);
          is = becomes ∙ ap (λ (x : View). Some x) view;
          alike = subst (λ (y : View). Alike w (completed (bare es) (without_name plan_file u)) y)
              (sym (finished_formed v es formed is)) (formed_alike w es u v begun is others (recovers formed));
          cleared = λ k free. completed_cleared w es u v k begun is others free;
        }
    by (Unformed unformed none) =
        let view : group_finished u ≡ without_name plan_file u =
        ap (λ (o : Option Content). finished_by o (without_name plan_file u)) (same_intent w u v begun)
        ∙ still_by (v intent_file) (without_name plan_file u) unformed well in
        plan_done w v u (seen b) begun unformed none (becomes ∙ ap (λ (x : View). Some x) view)

-- where an intent that isn't of its form stays
left_done : (w : List ℕ → Bool) (v u : View) (a b : Told) → IsBegun w u v → seen a ≡ Some u → IsLeft a b
    → IsDone w v u (seen b)
left_done w v u a b begun told left = by (intent_case (v intent_file))
  where
    bad : (line : ℕ) × IsBad (v intent_file) line
    bad =
        let found = told_is (seen a) u (λ (x : View). (line : ℕ) × IsBad (x intent_file) line) told left.bad in
        (found.0, subst (λ (o : Option Content). IsBad o found.0) (same_intent w u v begun) found.1)

    by : IntentCase (v intent_file) → IsDone w v u (seen b)
    by (Formed es formed is others) = absurd (not_bad (v intent_file) bad.0 formed bad.1)
    by (Unformed unformed none) = plan_done w v u (seen b) begun unformed none (becomes_is (without_name plan_file)
        (seen a) (seen b) u told left.lost.view)

either_done : (w : List ℕ → Bool) (v u : View) (a b : Told) → IsBegun w u v → seen a ≡ Some u → IsFinished a b
    ⊎ IsLeft a b → (is_formed (v intent_file) ≡ true → RecoversAs v u) → IsDone w v u (seen b)
either_done w v u a b begun told (inl whole) recovers = whole_done w v u a b begun told whole recovers
either_done w v u a b begun told (inr left) recovers = left_done w v u a b begun told left

-- where the disk failed
cut_shown : (w : List ℕ → Bool) (v u : View) (a b : Told) → IsBegun w u v → seen a ≡ Some u → IsCutOff a b
    → (is_formed (v intent_file) ≡ true → RecoversAs v u) → ShowsNext w (finishing_step v ∷ []) (seen b) v
cut_shown w v u a b begun told cut recovers = by (intent_case (v intent_file))
  where
    halfway : IsHalfway (intended u) (Some u) (seen b)
    halfway = subst (λ (o : Option View). IsHalfway (intended u) o (seen b)) told
        (told_is (seen a) u (λ (x : View). IsHalfway (intended x) (seen a) (seen b)) told cut.halfway)

    entries : (es : List IntentEntry) → entries_in (v intent_file) ≡ es → intended u ≡ bare es
    entries es is = ap (λ (o : Option Content). bare (entries_in o)) (same_intent w u v begun) ∙ ap bare is

    placed_in : (formed : Bool) (es : List IntentEntry) → is_formed (v intent_file) ≡ formed
        → entries_in (v intent_file) ≡ es → AreOthers es → SamePairs es u v → (o : Option View)
        → IsHalfway (bare es) (Some u) o → ShowsNext w (finishing_step v ∷ []) o v
    placed_in formed es formed_is is others same None (whole, some, moves) = absurd moves
    placed_in formed es formed_is is others same (Some x) (whole, some, moves) =
        subst (λ (t : NamedStep). ShowsNext w (t ∷ []) (Some x) v) (sym (step_is v formed es formed_is is))
        (suc (suc whole), count_of some, half_alike w formed es u v x whole some begun is others same moves)

    by : IntentCase (v intent_file) → ShowsNext w (finishing_step v ∷ []) (seen b) v
    by (Formed es formed is others) =
        placed_in true es formed is others (same_pairs es es u v others is (same_intent w u v begun) (recovers formed)
        (own_fates es others)) (seen b) (subst (λ (ms : List Member). IsHalfway ms (Some u) (seen b))
        (entries es is) halfway)
    by (Unformed unformed none) = placed_in false [] unformed none tt tt (seen b)
        (subst (λ (ms : List Member). IsHalfway ms (Some u) (seen b)) (entries [] none) halfway)

-- ---- the steps

-- where an intent has its form what is told recovers as the folder
known_recovers : (w : List ℕ → Bool) (folder : Folder) (a : Told) (u : View) → seen a ≡ Some u
    → AreKnown a folder (finishing_portion (view_in folder) ∷ []) → is_formed (view_in folder intent_file) ≡ true
    → RecoversAs (view_in folder) u
known_recovers w folder a u told (inl none) formed = absurd (let no : true ≡ false = sym formed ∙ none.0 in cc)
known_recovers w folder a u told (inr (inr begun)) formed =
    told_is (seen a) u (λ (x : View). RecoversAs (view_in folder) x) told begun.0
known_recovers w folder a u told (inr (inl safe)) formed =
    let same : view_of safe.model ≡ u = some_is (view_of safe.model) u (sym (ap seen safe.is) ∙ told) in
    subst (λ (x : View). RecoversAs (view_in folder) x) same safe.may.recovers
  where
    some_is : (x y : View) → Some x ≡ Some y → x ≡ y
    some_is x y e = cc

-- where the plan alone goes the view is the folder's
lost_shown : (w : List ℕ → Bool) (folder : Folder) (a b : Told) → Spares w
    → AllClear w (finishing_portion (view_in folder) ∷ []) → Shows w (seen a) (view_in folder) → LosesPlan a b
    → Shows w (seen b) (view_in folder)
lost_shown w folder a b spares clear shows lost =
    let call : IsCalled w folder a = called w folder a spares clear shows in
    shown_as w (seen b) (without_name plan_file call.u) (view_in folder) (becomes_is (without_name plan_file) (seen a)
    (seen b) call.u call.told lost.view) (plan_alike w call.u (view_in folder) call.begun)

-- a call that writes nothing
pub runs_to : (w : List ℕ → Bool) (r : Result ℕ Fault) (folder : Folder) (a b : Told) (out err : Option (List ℕ))
    → Spares w → AllClear w (finishing_portion (view_in folder) ∷ []) → Shows w (seen a) (view_in folder)
    → AreKnown a folder (finishing_portion (view_in folder) ∷ []) → FinishEnds r a b
    → RunsTo 0 w r folder (finishing_step (view_in folder) ∷ []) (world (seen a) out err) (world (seen b) out err)
runs_to w (Ok status) folder a b out err spares clear shows known ended =
    let call : IsCalled w folder a = called w folder a spares clear shows in
    let done : IsDone w (view_in folder) call.u (seen b) = either_done w (view_in folder) call.u a b call.begun
    call.told ended.1 (known_recovers w folder a call.u call.told known) in (
      ended.0,
      record {
        view = shown_as w (seen b) done.x (view_in (step_in folder (finishing_step (view_in folder)))) done.is
            (after_shown w folder done.x done.alike);
        cleared = cleared_as w (seen a) (seen b) call.u done.x call.told done.is done.cleared;
        out = gives_none out;
        err = gives_none err;
      },
    )
runs_to w (Err ends.Memory) folder a b out err spares clear shows known lost =
    let call : IsCalled w folder a = called w folder a spares clear shows in
    let now : seen b ≡ Some (without_name plan_file call.u) = becomes_is (without_name plan_file) (seen a)
    (seen b) call.u call.told lost.view in (
      record {
        made = [];
        rest = finishing_step (view_in folder) ∷ [];
        is = refl;
        view = (
          false,
          shown_as w (seen b) (without_name plan_file call.u) (view_in folder) now
              (plan_alike w call.u (view_in folder) call.begun),
        );
        cleared = cleared_as w (seen a) (seen b) call.u (without_name plan_file call.u) call.told now
            (λ k free. plan_cleared call.u k);
        out = some_none out [];
        err = some_none err [];
      },
      omega arith,
    )
runs_to w (Err ends.DiskFault) folder a b out err spares clear shows known cut =
    let call : IsCalled w folder a = called w folder a spares clear shows in
    record {
      made = [];
      rest = finishing_step (view_in folder) ∷ [];
      is = refl;
      view = cut_shown w (view_in folder) call.u a b call.begun call.told cut
          (known_recovers w folder a call.u call.told known);
      out = some_none out [];
      err = some_none err [];
    }
runs_to w (Err ends.ReadFault) folder a b out err spares clear shows known ended = absurd ended
runs_to w (Err ends.WriteFault) folder a b out err spares clear shows known ended = absurd ended

-- ---- the crash points

module _ (w : List ℕ → Bool) (folder : Folder) (a b : Told) (out err : Option (List ℕ)) (m : Model) (past : List Model)
    (spares : Spares w) (clear : AllClear w (finishing_portion (view_in folder) ∷ [])) (shows : Shows w (seen a)
    (view_in folder)) (is : a ≡ Tells m past) (may : MayBegin folder m)
    (safe : AllSafe (view_in folder) (finishing_portion (view_in folder) ∷ [])) where
  abbrev step : NamedStep
  step = finishing_step (view_in folder)

  alike_now : Alike w (view_of m) (view_in folder)
  alike_now = subst (λ (t : Told). Shows w (seen t) (view_in folder)) is shows

  alikes : Alikes folder step (view_of m) (view_of m)
  alikes = record {
    old = may.recovers;
    new = subst (λ (v : View). RecoversAs v (view_of m)) (sym (finished_in folder))
        (recovers_then (finished (view_in folder)) (view_in folder) (view_of m) (recovers_back (view_in folder)
        (finished (view_in folder)) (finished_recovers (view_in folder))) may.recovers);
  }

  -- the step keeps the names
  keeps : KeepsSafe (view_in folder) (view_in (step_in folder step))
  keeps = subst (λ (v : View). KeepsSafe (view_in folder) v) (sym (finished_in folder)) (finished_safe (view_in folder))

  can : CanFinish m
  can = by (intent_case (view_in folder intent_file))
    where
      by : IntentCase (view_in folder intent_file) → CanFinish m
      by (Formed es formed entries others) =
          can_finish w (view_in folder) es m spares alike_now may.recovers may.calm entries
          (are_safe es (view_in folder) others (subst (λ (l : List IntentEntry). AreSafe finishing_action
          (map name_part l) (view_in folder)) entries safe.0))
      by (Unformed unformed none) = can_finish w (view_in folder) [] m spares alike_now may.recovers may.calm none tt

  -- it is made
  made_crash_points : (status : ℕ) (after : EndsAfter (view_of m) (view_of m) m past b)
      → Each (Allows (KeepsSafeFrom m)) after.0.added m → Shows w (seen b) (view_in (step_in folder step))
      → StepListCrashPoints w (Ok status) folder (step ∷ []) (scene a out err) (scene b out err) m past
  made_crash_points status after images shown_now =
      step_list_crash_points w (Ok status) folder (step ∷ []) (scene a out err) (scene b out err) m past
      (one_after w (Ok status) folder step (view_of m) (view_of m) (scene a out err) (scene b out err) m past alikes
      after (some_none out []) (some_none err []) shown_now) (λ other. keeps) images

  plan_run : LosesPlan a b → Touching (bytes_eq plan_file) m past b
  plan_run lost = lost.touches m past is

  either_crash_points : (status : ℕ) → IsFinished a b ⊎ IsLeft a b → Shows w (seen b) (view_in (step_in folder step))
      → StepListCrashPoints w (Ok status) folder (step ∷ []) (scene a out err) (scene b out err) m past
  either_crash_points status (inl whole) shown_now =
      let done : Completes m past b = whole.done m past is can tt in
      made_crash_points status (after_of m past b may.calm done) (follow_images m done.run.added may.calm done.run.each)
      shown_now
  either_crash_points status (inr left) shown_now =
      let run : Touching (bytes_eq plan_file) m past b = plan_run left.lost in
      let after : EndsAfter (view_of m) (view_of m) m past b = before_after (view_of m) m past b
      (plan_before m past b may.calm run) in
      made_crash_points status after (subst (λ (xs : List Model). Each (Allows (KeepsSafeFrom m)) xs m)
      (told_once run.added after.0.added m past b run.is after.0.is) (plan_images m run.added may.calm run.each))
      shown_now

  pub ended_crash_points : (r : Result ℕ Fault) → FinishEnds r a b → StepListCrashPoints w r folder (step ∷ [])
      (scene a out err) (scene b out err) m past
  ended_crash_points (Ok status) ended =
      either_crash_points status ended.1
      (runs_to w (Ok status) folder a b out err spares clear shows
      (inr (inl (record { model = m; past = past; is = is; may = may; safe = safe }))) ended).1.view
  ended_crash_points (Err ends.Memory) lost =
      let run : Touching (bytes_eq plan_file) m past b = plan_run lost in
      step_list_crash_points w (Err ends.Memory) folder (step ∷ []) (scene a out err) (scene b out err) m past
      (one_before w ends.Memory folder step (view_of m) (view_of m) (scene a out err) (scene b out err) m past alikes
      (plan_before m past b may.calm run) (some_none out []) (some_none err [])
      (false, lost_shown w folder a b spares clear shows lost)) (λ other. keeps_same (view_in folder))
      (plan_images m run.added may.calm run.each)
  ended_crash_points (Err ends.DiskFault) cut =
      let run : Finishes m past b = cut.story m past is can tt in
      step_list_crash_points w (Err ends.DiskFault) folder (step ∷ []) (scene a out err) (scene b out err) m past
      (one_within w folder step (view_of m) (view_of m) (scene a out err) (scene b out err) m past alikes
      (within_of m past b may.calm run) (some_none out []) (some_none err [])) (λ other. absurd (other refl))
      (follow_images m run.added may.calm run.each)
  ended_crash_points (Err ends.ReadFault) ended = absurd ended
  ended_crash_points (Err ends.WriteFault) ended = absurd ended

-- ---- the call

-- names that aren't exempt aren't named by the intent
not_named : (exempt : List ℕ → Bool) (es : List IntentEntry) (n : List ℕ) → AreOthers es
    → AreExempt finishing_action exempt (map name_part es) → exempt n ≡ false → has_name es n ≡ false
not_named exempt [] n others freed asked = refl
not_named exempt (e ∷ es) n others freed asked =
    or_from (bytes_eq e.name n) (has_name es n)
    (⊎_elim (λ (same : e.name ≡ n). absurd (let has : exempt n ≡ true = subst (λ (l : List ℕ). exempt l ≡ true) same
    (freed.0 ((sfile_name_decides e.name).1 (others.0.name, others.0.sfile)) refl) in let no : true ≡ false =
    sym has ∙ asked in cc)) (λ apart. apart) (name_cases e.name n))
    (not_named exempt es n others.1 freed.1 asked)

finish_unlocked : (w : List ℕ → Bool) (folder : Folder) (a b : Told) → Spares w
    → AllClear w (finishing_portion (view_in folder) ∷ []) → Shows w (seen a) (view_in folder) → FinishOthers a b
    → (exempt : List ℕ → Bool) → AllExempt exempt (finishing_portion (view_in folder) ∷ [])
    → BeginsUnlockedBut exempt a b
finish_unlocked w folder a b spares clear shows others exempt freed =
    let call : IsCalled w folder a = called w folder a spares clear shows in
    let es : List IntentEntry = entries_in (call.u intent_file) in
    let members = intended_members call.u in
    let same : call.u intent_file ≡ view_in folder intent_file = same_intent w call.u (view_in folder) call.begun in
    let are : AreOthers (entries_in (call.u intent_file)) =
    subst AreOthers (bare_entries (entries_in (call.u intent_file))) members.0 in
    begin_but exempt (intended call.u) a b members.0 members.1
    (λ n asked. subst (λ (l : List IntentEntry). has_name l n ≡ false)
    (sym (bare_entries (entries_in (call.u intent_file))))
    (not_named exempt (entries_in (call.u intent_file)) n are
    (subst (λ (o : Option Content). AreExempt finishing_action exempt (map name_part (entries_in o)))
    (sym same) freed.0) asked))
    (told_is (seen a) call.u (λ (v : View). KeepsOthers (is_own_of_group (intended v)) a b) call.told others)

speaks_so : (r : Result ℕ Fault) (a b : Told) (err : Option (List ℕ)) → FinishEnds r a b
    → SpeaksTo WholeFinishing BegunFinishing r err err
speaks_so (Ok status) a b err ended = (finishing_step (λ k. None) ∷ [], (ended.0, ((λ k. None), refl)), gives_none err)
speaks_so (Err fault) a b err ended = (finishing_step (λ k. None) ∷ [], ((λ k. None), refl), some_none err [])

causes_so : (r : Result ℕ Fault) (a b : Told) (i o e d d2 : ℕ) → FinishEnds r a b
    → DiskCauses (r ≡ Err ends.DiskFault) d d2 → RunCauses r (counts i o e d) (counts i o e d2)
causes_so r a b i o e d d2 ended causes = record {
  input_later = omega arith;
  out_later = omega arith;
  err_later = omega arith;
  disk_later = causes.later;
  read = λ is. absurd (subst (λ (x : Result ℕ Fault). FinishEnds x a b) is ended);
  write = λ is. absurd (subst (λ (x : Result ℕ Fault). FinishEnds x a b) is ended);
  broke = λ is. causes.cause is;
}

pub finish_runs : (r : Result ℕ Fault) (left : Option (List ℕ)) (a b : Told) (out err : Option (List ℕ))
    (i o e d d2 : ℕ) → FinishEnds r a b → FinishOthers a b → DiskCauses (r ≡ Err ends.DiskFault) d d2
    → RunsStepList finishing_step_list (λ (input : List ℕ). Unit {0}) WholeFinishing BegunFinishing r
    (record { left = left; stage = scene a out err; faults = counts i o e d })
    (record { left = left; stage = scene b out err; faults = counts i o e d2 })
finish_runs r left a b out err i o e d d2 ended others causes = record {
  some = λ folder input given. λ e. absurd cc;
  takes = λ folder input. (λ changes n fits. ((sfile_name_decides n).0 fits).1, tt);
  steps = λ w folder input spares clear shows known given. runs_to w r folder a b out err spares clear shows known
      ended;
  stops = λ w folder input m past spares clear shows given told may safe. ended_crash_points w folder a b out err m past
      spares clear shows told may safe r ended;
  unlocked = λ w folder input spares clear shows known given exempt plain freed. finish_unlocked w folder a b spares
      clear shows others exempt freed;
  speaks = speaks_so r a b err ended;
  causes = causes_so r a b i o e d d2 ended causes;
}
