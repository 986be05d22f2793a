-- Where a call ends that makes a group, and what a stop leaves of it.
use Rattle.std.proofs.Common.{◌≡◌, ◌⊎◌, ℕ, Bool, false, List, [], ◌∷◌, ◌++◌, Option, Some, Result, Err, inl, inr, refl}
use Rattle.std.proofs.Common.{sym, ap, subst}
use Rattle.sccs_base.specs.Name.{IsSFileName}
use Rattle.sccs_base.specs.Stream.{GivesSome}
use Rattle.sccs_base.proofs.Gifts.{some_none}
use Rattle.sccs_sid.specs.Refusal.{refusal_line}
use Rattle.sccs_sid.specs.declared.moments.Stamp.{Stamp}
use Rattle.sccs_sid.specs.declared.refusals.Refusal.{Refusal}
use Rattle.sccs_sid.specs.declared.refusals.StepFault.TheVariants as step
use Rattle.sccs_disk.specs.Files.{Folder, Model, View, view_in, view_of}
use Rattle.sccs_disk.specs.Images.{Allows}
use Rattle.sccs_disk.specs.Told.{Told, Tells, seen}
use Rattle.sccs_name_files.specs.StepFiles.{Alike, Shows}
use Rattle.sccs_name_files.specs.Touches.{Each, earlier, newest}
use Rattle.sccs_name_files.proofs.Images.{view_image}
use Rattle.sccs_crash_points.specs.Calm.{KeepsPairs}
use Rattle.sccs_crash_points.specs.CrashPoints.{EndsAfter, EndsBefore, EndsWithin, IsAt}
use Rattle.sccs_crash_points.specs.Recovery.{RecoversAs, IsHeldAt}
use Rattle.sccs_crash_points.proofs.Untouched.{before_after, before_within}
use Rattle.sccs_steps.specs.Calls.{Scene, scene}
use Rattle.sccs_steps.specs.ListStops.{KeepsSafe, KeepsSafeFrom, MayBegin}
use Rattle.sccs_steps.specs.StepLists.{NamedStep, all_moved, moves_of, step_in}
use Rattle.sccs_steps.specs.StepStops.{IsSafe}
use Rattle.sccs_steps.specs.declared.faults.Fault.{Fault}
use Rattle.sccs_steps.specs.declared.faults.Fault.TheVariants as ends
use Rattle.sccs_steps.proofs.Carried.{named_held, all_view}
use Rattle.sccs_steps.proofs.OneCrashPoint.{Alikes, one_after, one_before, one_within}
use Rattle.sccs_steps.proofs.SafeImages.{numbered_each, told_once}
use Rattle.sccs_steps.proofs.Safety.{alike_safe, keeps_same, safe_by}
use Rattle.sccs_step_lists.specs.Following.{StepListCrashPoints}
use Rattle.sccs_step_lists.proofs.StepListCrashPointLaws.{step_list_crash_points}
use Rattle.sccs_group_command.specs.declared.entries.GroupEntry.{GroupEntry}
use Rattle.sccs_group_command.specs.GroupStep.{group_step, names_of, refused_step}
use Rattle.sccs_group_command.specs.Making.{HoldsFrom, HoldsNames, IsMade, StopsAt, is_group_working}
use Rattle.sccs_group_command.specs.Preparing.{ArePlain, IsGivenBack, is_any_working, sfiles_of}
use Rattle.sccs_group_command.proofs.GroupFiles.{GroupAt, all_alike, back_shown, group_carried, group_out, made_shown}
use Rattle.sccs_group_command.proofs.GroupFiles.{step_at}
use Rattle.sccs_group_command.proofs.GroupRuns.{refused_here, refused_shown, still_view}
use Rattle.sccs_group_command.proofs.GroupSteps.{no_text}

-- ---- safe names

-- what a stop leaves recovers as before the step, or as after it, where names stay safe
abbrev AtGroup : View → View → View → Type 0
AtGroup v w u = RecoversAs v u ⊎ (RecoversAs w u × KeepsSafe v w)

image_safe : (m : Model) (w u : View) → AtGroup (view_of m) w u → HoldsFrom m u → KeepsSafeFrom m u
image_safe m w u at holds = λ n sfile all. by at n sfile all (holds n sfile (λ x image. named_held n x (all x image)))
  where
    by : AtGroup (view_of m) w u → (n : List ℕ) → IsSFileName n → Allows (IsSafe n) m → IsHeldAt n u → IsSafe n u
    by (inl old) n sfile all held = safe_by n (view_of m) u sfile old held (all (view_of m) (view_image m))
    by (inr new) n sfile all held = safe_by n w u sfile new.0 held (new.1 n sfile (all (view_of m) (view_image m)))

images_safe : (m : Model) (w : View) (added : List Model) → Each (Allows (AtGroup (view_of m) w)) added m
    → Each (Allows (HoldsFrom m)) added m → Each (Allows (KeepsSafeFrom m)) added m
images_safe m w added at holds = by added at holds
  where
    by : (xs : List Model) → Each (Allows (AtGroup (view_of m) w)) xs m → Each (Allows (HoldsFrom m)) xs m
        → Each (Allows (KeepsSafeFrom m)) xs m
    by [] one two = λ u image. image_safe m w u (one u image) (two u image)
    by (a ∷ xs) one two = (λ u image. image_safe m w u (one.0 u image) (two.0 u image), by xs one.1 two.1)

at_now : (v w u : View) (i : ℕ) → KeepsSafe v w → IsAt v w i u → AtGroup v w u
at_now v w u i keeps (inl new) = inr (new, keeps)
at_now v w u i keeps (inr old) = inl old.1

holds_for : (m : Model) (past : List Model) (t : Told) (added : List Model) → t ≡ Tells (newest added m)
    (earlier added m past) → HoldsNames m past t → Each (Allows (HoldsFrom m)) added m
holds_for m past t added is holds = subst (λ (xs : List Model). Each (Allows (HoldsFrom m)) xs m)
    (told_once holds.added added m past t holds.is is) holds.each

-- ---- the crash points

module _ (w : List ℕ → Bool) (stamp : Stamp) (entries : List GroupEntry) (folder : Folder) (a b : Scene)
    (e : Option (List ℕ)) (m : Model) (past : List Model) (at : GroupAt w stamp entries folder (view_of m))
    (plain : ArePlain (names_of entries)) (may : MayBegin folder m) where
  abbrev after_view : View
  after_view = all_moved (view_of m) (moves_of (step_at stamp entries folder))

  alikes : Alikes folder (step_at stamp entries folder) (view_of m)
      (all_moved (view_of m) (moves_of (step_at stamp entries folder)))
  alikes = record { old = may.recovers; new = group_carried w stamp entries folder (view_of m) at plain may.recovers }

  -- names stay safe in the folder
  keeps_here : KeepsSafe (view_of m) (all_moved (view_of m) (moves_of (step_at stamp entries folder)))
      → KeepsSafe (view_in folder) (view_in (step_in folder (step_at stamp entries folder)))
  keeps_here keeps = λ n sfile safe.
      let moves = moves_of (step_at stamp entries folder) in
      let shows : Alike w (all_moved (view_of m) moves) (view_in (step_in folder (step_at stamp entries folder)))
      = subst (λ (x : View). Alike w (all_moved (view_of m) moves) x) (sym (all_view folder moves))
      (all_alike w (view_of m) (view_in folder) moves at.alike) in
      alike_safe w n (all_moved (view_of m) moves) (view_in (step_in folder (step_at stamp entries folder))) at.spares
      sfile shows (λ k other. sym (group_carried w stamp entries folder (view_of m) at plain may.recovers k other))
      (keeps n sfile (alike_safe w n (view_in folder) (view_of m) at.spares sfile (λ k h. sym (at.alike k h))
      may.recovers safe))

  pub after_crash_points : (r : Result ℕ Fault) (v : View) → seen b.told ≡ Some v
      → EndsAfter (view_of m) (all_moved (view_of m) (moves_of (step_at stamp entries folder))) m past b.told
      → KeepsSafe (view_of m) (all_moved (view_of m) (moves_of (step_at stamp entries folder)))
      → HoldsNames m past b.told
      → IsMade (sfiles_of (names_of entries)) (step_at stamp entries folder) (view_of m) v
      → GivesSome a.out b.out (step_at stamp entries folder).effect.out
      → GivesSome a.err e (step_at stamp entries folder).effect.err
      → StepListCrashPoints w r folder (step_at stamp entries folder ∷ []) a (scene b.told b.out e) m past
  after_crash_points r v told after keeps holds made out err =
      step_list_crash_points w r folder (step_at stamp entries folder ∷ []) a (scene b.told b.out e) m past
      (one_after w r folder (step_at stamp entries folder) (view_of m)
      (all_moved (view_of m) (moves_of (step_at stamp entries folder))) a (scene b.told b.out e) m past alikes after
      (subst (λ (text : List ℕ). GivesSome a.out b.out text)
      (sym (ap (λ (text : List ℕ). text ++ (step_at stamp entries folder).effect.out)
      (no_text stamp (view_in folder) entries))) out) err
      (subst (λ (o : Option View). Shows w o (view_in (step_in folder (step_at stamp entries folder)))) (sym told)
      (made_shown w stamp entries folder (view_of m) v at made)))
      (λ other. keeps_here keeps)
      (images_safe m (all_moved (view_of m) (moves_of (step_at stamp entries folder))) after.0.added
      (numbered_each (IsAt (view_of m) (all_moved (view_of m) (moves_of (step_at stamp entries folder))))
      (AtGroup (view_of m) (all_moved (view_of m) (moves_of (step_at stamp entries folder)))) 0 after.0.added m 1
      (λ i u now. at_now (view_of m) (all_moved (view_of m) (moves_of (step_at stamp entries folder))) u i keeps
      now) after.0.numbers)
      (holds_for m past b.told after.0.added after.0.is holds))

  -- nothing is committed
  before_images : (before : EndsBefore (view_of m) m past b.told) → HoldsNames m past b.told
      → Each (Allows (KeepsSafeFrom m)) before.0.added m
  before_images before holds =
      images_safe m (view_of m) before.0.added
      (numbered_each (λ i x. KeepsPairs (view_of m) x) (AtGroup (view_of m) (view_of m)) 0 before.0.added m 0
      (λ i u keeps. inl keeps.recovers) before.0.numbers) (holds_for m past b.told before.0.added before.0.is holds)

  same_images : (t : Told) → (after : EndsAfter (view_of m) (view_of m) m past t) → EndsBefore (view_of m) m past t
      → HoldsNames m past t → Each (Allows (KeepsSafeFrom m)) after.0.added m
  same_images t after before holds =
      images_safe m (view_of m) after.0.added
      (numbered_each (IsAt (view_of m) (view_of m)) (AtGroup (view_of m) (view_of m)) 0 after.0.added m 1
      (λ i u now. at_now (view_of m) (view_of m) u i (keeps_same (view_of m)) now) after.0.numbers)
      (holds_for m past t after.0.added after.0.is holds)

  pub refused_crash_points : (r : Result ℕ Fault) (v : View) (n : List ℕ) (refusal : Refusal) → seen b.told ≡ Some v
      → EndsBefore (view_of m) m past b.told → HoldsNames m past b.told
      → group_step stamp (view_of m) entries ≡ refused_step (names_of entries) n refusal
      → IsGivenBack (is_any_working (sfiles_of (names_of entries))) (view_of m) v → b.out ≡ a.out
      → GivesSome a.err e (refusal_line n refusal)
      → StepListCrashPoints w r folder (step_at stamp entries folder ∷ []) a (scene b.told b.out e) m past
  refused_crash_points r v n refusal told before holds is back silent err =
      let here = refused_here w stamp entries folder (view_of m) v at a.out b.out a.err e n refusal is in
      let still = still_view w stamp entries folder (view_of m) v at a.out b.out a.err e n refusal here in
      step_list_crash_points w r folder (step_at stamp entries folder ∷ []) a (scene b.told b.out e) m past
      (one_after w r folder (step_at stamp entries folder) (view_of m) (view_of m) a (scene b.told b.out e) m past
      (record { old = may.recovers; new = subst (λ (x : View). RecoversAs x (view_of m)) (sym still) may.recovers })
      (before_after (view_of m) m past b.told before)
      (subst (λ (o : Option (List ℕ)). GivesSome a.out o ((step_at stamp entries folder).effect.text
      ++ (step_at stamp entries folder).effect.out)) (sym silent) (some_none a.out _))
      (subst (λ (text : List ℕ). GivesSome a.err e text) (sym (ap (λ (t : NamedStep). t.effect.err) here)) err)
      (subst (λ (o : Option View). Shows w o (view_in (step_in folder (step_at stamp entries folder)))) (sym told)
      (refused_shown w stamp entries folder (view_of m) v at a.out b.out a.err e n refusal here back)))
      (λ other. subst (λ (x : View). KeepsSafe (view_in folder) x) (sym still) (keeps_same (view_in folder)))
      (same_images b.told (before_after (view_of m) m past b.told before) before holds)

  pub waiting_crash_points : (v : View) → seen b.told ≡ Some v → EndsBefore (view_of m) m past b.told
      → HoldsNames m past b.told → IsGivenBack (is_group_working (sfiles_of (names_of entries))) (view_of m) v
      → b.out ≡ a.out → e ≡ a.err
      → StepListCrashPoints w (Err ends.Memory) folder (step_at stamp entries folder ∷ []) a (scene b.told b.out e) m
      past
  waiting_crash_points v told before holds back silent quiet =
      step_list_crash_points w (Err ends.Memory) folder (step_at stamp entries folder ∷ []) a (scene b.told b.out e) m
      past
      (one_before w ends.Memory folder (step_at stamp entries folder) (view_of m)
      (all_moved (view_of m) (moves_of (step_at stamp entries folder))) a (scene b.told b.out e) m past alikes
      before
      (subst (λ (o : Option (List ℕ)). GivesSome a.out o (step_at stamp entries folder).effect.text) (sym silent)
      (some_none a.out _)) (subst (λ (o : Option (List ℕ)). GivesSome a.err o []) (sym quiet) (some_none a.err _)) (
        false,
        subst (λ (o : Option View). Shows w o (view_in folder)) (sym told)
            (back_shown w (is_group_working (sfiles_of (names_of entries))) folder (view_of m) v
            (λ k h. group_out w (names_of entries) k at.files at.plan h) at.alike back),
      ))
      (λ other. keeps_same (view_in folder)) (before_images before holds)

  -- the disk failed
  within_by : (within : EndsWithin (view_of m) (all_moved (view_of m) (moves_of (step_at stamp entries folder))) m past
      b.told) → Each (Allows (KeepsSafeFrom m)) within.0.added m → b.out ≡ a.out → e ≡ a.err
      → StepListCrashPoints w (Err ends.DiskFault) folder (step_at stamp entries folder ∷ []) a (scene b.told b.out e) m
      past
  within_by within images silent quiet =
      step_list_crash_points w (Err ends.DiskFault) folder (step_at stamp entries folder ∷ []) a (scene b.told b.out e)
      m past
      (one_within w folder (step_at stamp entries folder) (view_of m)
      (all_moved (view_of m) (moves_of (step_at stamp entries folder))) a (scene b.told b.out e) m past alikes
      within
      (subst (λ (o : Option (List ℕ)). GivesSome a.out o (step_at stamp entries folder).effect.text) (sym silent)
      (some_none a.out _)) (subst (λ (o : Option (List ℕ)). GivesSome a.err o []) (sym quiet) (some_none a.err _)))
      (λ other. absurd (other refl)) images

  pub broken_crash_points : StopsAt step.DiskFault (view_of m)
      (all_moved (view_of m) (moves_of (step_at stamp entries folder))) m past b.told → HoldsNames m past b.told
      → b.out ≡ a.out → e ≡ a.err
      → StepListCrashPoints w (Err ends.DiskFault) folder (step_at stamp entries folder ∷ []) a (scene b.told b.out e) m
      past
  broken_crash_points (inl within) holds silent quiet =
      within_by within.0
      (images_safe m (all_moved (view_of m) (moves_of (step_at stamp entries folder))) within.0.0.added
      (numbered_each (IsAt (view_of m) (all_moved (view_of m) (moves_of (step_at stamp entries folder))))
      (AtGroup (view_of m) (all_moved (view_of m) (moves_of (step_at stamp entries folder)))) 0 within.0.0.added m 0
      (λ i u now. at_now (view_of m) (all_moved (view_of m) (moves_of (step_at stamp entries folder))) u i within.1
      now) within.0.0.numbers)
      (holds_for m past b.told within.0.0.added within.0.0.is holds)) silent quiet
  broken_crash_points (inr before) holds silent quiet =
      let within : EndsWithin (view_of m) (all_moved (view_of m) (moves_of (step_at stamp entries folder))) m past
      b.told = before_within (view_of m) (all_moved (view_of m) (moves_of (step_at stamp entries folder))) m past
      b.told before in
      within_by within (subst (λ (xs : List Model). Each (Allows (KeepsSafeFrom m)) xs m)
      (told_once before.0.added within.0.added m past b.told before.0.is within.0.is) (before_images before holds))
      silent quiet
