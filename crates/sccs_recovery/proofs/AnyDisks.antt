-- Finishing a group and then recovering names, on any disk on which the group may be finished.
use Rattle.std.proofs.Common.{◌≡◌, ◌≢◌, ◌⊎◌, ℕ, false, List, Option, None, Some, IfSome, IsSome, IsOk, Result, Ok, Err}
use Rattle.std.proofs.Common.{inl, inr, refl, sym, ap, subst, ◌∙◌}
use Rattle.std.specs.Str.{bytes_eq}
use Rattle.sccs_base.specs.Name.{z_file}
use Rattle.sccs_disk.specs.Files.{Content, Folder, Model, View, view_of}
use Rattle.sccs_disk.specs.Images.{Allows, Image}
use Rattle.sccs_disk.specs.Told.{Told, Tells, seen}
use Rattle.sccs_name_files.specs.Touches.{Touches, Touching, earlier, newest}
use Rattle.sccs_name_files.proofs.Images.{view_image}
use Rattle.sccs_name_files.proofs.Touched.{each_newest}
use Rattle.sccs_intents.specs.Intents.{entries_in, fate_in, intent_file, plan_file}
use Rattle.sccs_intents.specs.declared.intents.Fate.{Fate}
use Rattle.sccs_crash_points.specs.Calm.{HasFirm, IsCalm}
use Rattle.sccs_crash_points.specs.CrashPoints.{CanRecover, IsCalmUnnamed, IsFrom, NamesNone, Went}
use Rattle.sccs_crash_points.specs.Recovery.{fate_at}
use Rattle.sccs_crash_points.proofs.CalmDisks.{firms_touched}
use Rattle.sccs_crash_points.proofs.Joined.{newest_is, numbered_as, numbered_now, numbered_zero, went_then}
use Rattle.sccs_crash_points.proofs.Recoveries.{calm_recovers}
use Rattle.sccs_crash_points.proofs.Recovering.{fate_same}
use Rattle.sccs_crash_points.proofs.Untouched.{guards_touched, none_named, view_touched}
use Rattle.sccs_steps.proofs.Safety.{pair_settled}
use Rattle.sccs_recovery.proofs.FinishStops.{plan_recovers}
use Rattle.sccs_steps.specs.Recovering.{RecoversSteps}
use Rattle.sccs_steps.specs.declared.faults.Fault.{Fault}
use Rattle.sccs_steps.specs.declared.faults.Fault.TheVariants as ends
use Rattle.sccs_group.specs.Finishing.{CanFinish, Completes, Finishes, Follows}
use Rattle.sccs_group.proofs.Runs.{from_image, view_is}
use Rattle.sccs_store.specs.Commits.{Becomes}
use Rattle.sccs_crash_points.specs.Recovery.{without_name}
use Rattle.sccs_disk.proofs.Puts.{put_other}
use Rattle.sccs_group.specs.Recovering.{IsBad, IsWellFormed, finished_by, group_finished}
use Rattle.sccs_recovery.proofs.Moved.{completed_intent}
use Rattle.sccs_steps.specs.Actions.{Action}
use Rattle.sccs_steps.specs.StepLists.{NamedStep}
use Rattle.sccs_recovery.proofs.FinishStops.{plan_before}
use Rattle.sccs_recovery.specs.AnyDisk.{LeavesFinishable, MakesCalm, RecoversAll, RecoversFrom, StaysCalm}
use Rattle.sccs_group.specs.Ended.{IsFinished, LosesPlan}
use Rattle.sccs_recovery.specs.FinishingEnds.{FinishEnds, IsLeft}
use Rattle.sccs_crash_points.proofs.FileNames.{plan_and_sfile}

-- a disk on which names may be recovered is one on which a group may be finished
pub finish_unnamed : (m : Model) → HasFirm m → NamesNone (view_of m) → CanFinish m
finish_unnamed m firm none = record {
  firm = firm;
  held = λ n sfile named. absurd (none_named (fate_at (view_of m) n) (none n sfile) named);
  settled = λ n sfile named. absurd (none_named (fate_at (view_of m) n) (none n sfile) named);
}

-- ---- finishing

-- the plan alone
pub plan_from : (m m2 : Model) → Touches (bytes_eq plan_file) m m2 → Allows (IsFrom m) m2
plan_from m m2 touches = λ x image.
    let before : (u : View) × Image m u × ((k : List ℕ) → bytes_eq plan_file k ≡ false → u k ≡ x k) =
    touches.images x image in
    (before.0, before.1, plan_recovers before.0 x before.2)

abbrev pub plan_went : (m : Model) (past : List Model) (new : Told) → Touching (bytes_eq plan_file) m past new
    → Went (λ j w. IsFrom m w) m past 0 new
plan_went m past new run = record {
  added = run.added;
  is = run.is;
  numbers = numbered_zero (Touches (bytes_eq plan_file) m) (λ i m2. Allows (IsFrom m) m2) run.added m
      (λ m2 touches. plan_from m m2 touches) run.each;
  guarded = guards_touched (bytes_eq plan_file) m run.added (λ n sfile. plan_and_sfile n sfile)
      (λ n sfile. refl) run.each;
}

plan_firm : (m m2 : Model) → Touches (bytes_eq plan_file) m m2 → HasFirm m → HasFirm m2
plan_firm m m2 touches firm = firms_touched (bytes_eq plan_file) m m2 (λ n sfile. plan_and_sfile n sfile)
    (λ n sfile. refl) refl (λ n sfile named. refl) (λ n sfile named. refl) touches firm

-- held and settled are what they were
plan_can : (m m2 : Model) → Touches (bytes_eq plan_file) m m2 → CanFinish m → CanFinish m2
plan_can m m2 touches can = record {
  firm = plan_firm m m2 touches can.firm;
  held = λ n sfile named. subst (λ (o : Option Content). IsSome o)
      (sym (view_touched (bytes_eq plan_file) m m2 (z_file n) touches refl)) (can.held n sfile (old n named));
  settled = λ n sfile named. pair_settled n (view_of m) (view_of m2) (plan_recovers (view_of m) (view_of m2)
      (λ k other. sym (view_touched (bytes_eq plan_file) m m2 k touches other)) n sfile)
      (can.settled n sfile (old n named));
}
  where
    old : (n : List ℕ) → IsSome (fate_at (view_of m2) n) → IsSome (fate_at (view_of m) n)
    old n named = subst (λ (f : Option Fate). IsSome f) (fate_same n (view_of m) (view_of m2)
        (view_touched (bytes_eq plan_file) m m2 intent_file touches refl)) named

abbrev pub finishes_went : (m : Model) (past : List Model) (new : Told) → Finishes m past new
    → Went (λ j w. IsFrom m w) m past 0 new
finishes_went m past new run = record {
  added = run.added;
  is = run.is;
  numbers = numbered_zero (Follows m) (λ i m2. Allows (IsFrom m) m2) run.added m (λ m2 follows. follows.images)
      run.each;
  guarded = run.guarded;
}

-- What finishing leaves: the story, and that it may begin again.
pub record Leaves (m : Model) (past : List Model) (new : Told) : Type 0 where
  pub went : Went (λ j w. IsFrom m w) m past 0 new
  pub can : CanFinish (newest went.added m)

plan_leaves : (m : Model) (past : List Model) (new : Told) → CanFinish m → Touching (bytes_eq plan_file) m past new
    → Leaves m past new
plan_leaves m past new can run =
    record {
      went = plan_went m past new run;
      can = plan_can m (newest run.added m)
          (each_newest (Touches (bytes_eq plan_file) m) run.added m run.each) can;
    }

finishes_leaves : (m : Model) (past : List Model) (new : Told) → Finishes m past new → Leaves m past new
finishes_leaves m past new run = record { went = finishes_went m past new run; can = run.can }

pub finish_leaves : (r : Result ℕ Fault) (a b : Told) (m : Model) (past : List Model) → FinishEnds r a b
    → a ≡ Tells m past → CanFinish m → Leaves m past b
finish_leaves (Ok status) a b m past (is, inl whole) told can =
    finishes_leaves m past b (whole.done m past told can tt).run
finish_leaves (Ok status) a b m past (is, inr left) told can = plan_leaves m past b can (left.lost.touches m past told)
finish_leaves (Err ends.Memory) a b m past lost told can = plan_leaves m past b can (lost.touches m past told)
finish_leaves (Err ends.DiskFault) a b m past cut told can = finishes_leaves m past b (cut.story m past told can tt)
finish_leaves (Err ends.ReadFault) a b m past ended told can = absurd ended
finish_leaves (Err ends.WriteFault) a b m past ended told can = absurd ended

-- ---- behind finishing

becomes_at : (f : View → View) (a b : Told) (m m1 : Model) (past past1 : List Model) → a ≡ Tells m past
    → b ≡ Tells m1 past1 → Becomes f (seen a) (seen b) → view_of m1 ≡ f (view_of m)
becomes_at f a b m m1 past past1 is is1 becomes = view_is f a b m m1 past past1 is is1 becomes

-- a group that is finished whole leaves no intent that names anything
whole_unnamed : (o : Option Content) (x w : View) → IsWellFormed o → x intent_file ≡ o → w ≡ finished_by o x
    → NamesNone w
whole_unnamed None x w well intent is = λ n sfile. ap (λ (v : View). fate_at v n) is
    ∙ ap (λ (o : Option Content). fate_in (entries_in o) n) intent
whole_unnamed (Some c) x w well intent is = λ n sfile.
    ap (λ (v : View). fate_at v n) is ∙ ap (λ (o : Option Content). fate_in (entries_in o) n)
    (completed_intent (entries_in (Some c)) x)

pub whole_calm : (a b : Told) (m m1 : Model) (past past1 : List Model) → IsFinished a b → CanFinish m → a ≡ Tells m past
    → b ≡ Tells m1 past1 → IsCalmUnnamed m1
whole_calm a b m m1 past past1 whole can is is1 =
    let done : Completes m past b = whole.done m past is can tt in
    let well : IsWellFormed (view_of m intent_file) =
    subst (λ (t : Told). IfSome (seen t) (λ (v : View). IsWellFormed (v intent_file))) is whole.form in
    record {
      calm = subst IsCalm (newest_is m m1 past past1 done.run.added b done.run.is is1) done.calm;
      unnamed = whole_unnamed (view_of m intent_file) (without_name plan_file (view_of m)) (view_of m1) well
          (put_other (view_of m) plan_file intent_file None refl) (becomes_at group_finished a b m m1 past past1 is is1
          whole.view);
    }

-- ---- and then names are recovered

-- the story behind another one
from_then : (m m1 : Model) (past past1 : List Model) (b c : Told) → (first : Went (λ j w. IsFrom m w) m past 0 b)
    → newest first.added m ≡ m1 → earlier first.added m past ≡ past1 → Went (λ j w. IsFrom m1 w) m1 past1 0 c
    → Went (λ j w. IsFrom m w) m past 0 c
from_then m m1 past past1 b c first is is_past next =
    let all : Allows (IsFrom m) (newest first.added m) = numbered_now (λ i m2. Allows (IsFrom m) m2) 0 first.added m 0
    first.numbers in
    let later : Went (λ j w. IsFrom (newest first.added m) w) (newest first.added m) (earlier first.added m past) 0 c =
    subst (λ (x : Model). Went (λ j w. IsFrom x w) x (earlier first.added m past) 0 c) (sym is)
    (subst (λ (xs : List Model). Went (λ j w. IsFrom m1 w) m1 xs 0 c) (sym is_past) next) in
    went_then (λ j w. IsFrom m w) m past 0 b c first (record {
      added = later.added;
      is = later.is;
      numbers = numbered_as (λ i m2. Allows (IsFrom (newest first.added m)) m2) (λ i m2. Allows (IsFrom m) m2) 0
          later.added (newest first.added m) 0 (λ i low m2 from w image. from_image m (newest first.added m) w all
          (from w image)) later.numbers;
      guarded = later.guarded;
    })

-- an intent that has its form doesn't stay
form_left : (a b : Told) (m : Model) (past : List Model) → IsLeft a b → a ≡ Tells m past
    → IsWellFormed (view_of m intent_file) → ⊥
form_left a b m past left is well =
    let bad : (line : ℕ) × IsBad (view_of m intent_file) line =
    subst (λ (t : Told). IfSome (seen t) (λ (v : View). (line : ℕ) × IsBad (v intent_file) line)) is left.bad in
    well bad.0 bad.1

module _ (x : Action) (made : Folder → List ℕ → List NamedStep) (given : List ℕ → Type 0) where
  story_both : (r : Result ℕ Fault) (a b c : Told) → IsFinished a b ⊎ IsLeft a b → RecoversSteps x made given r b c
      → RecoversFrom a c
  story_both r a b c (inl whole) recovers m past is may =
      let done : Completes m past b = whole.done m past is may.finish tt in
      let at : CanRecover (newest done.run.added m) = calm_recovers (newest done.run.added m)
      (whole_calm a b m (newest done.run.added m) past (earlier done.run.added m past) whole may.finish is
      done.run.is) in
      from_then m (newest done.run.added m) past (earlier done.run.added m past) b c (finishes_went m past b done.run)
      refl refl (recovers.story (newest done.run.added m) (earlier done.run.added m past) done.run.is at)
  story_both r a b c (inr left) recovers m past is may = absurd (form_left a b m past left is may.form)

  again_both : (r : Result ℕ Fault) (a b c : Told) → IsFinished a b ⊎ IsLeft a b → RecoversSteps x made given r b c
      → LeavesFinishable a c
  again_both r a b c (inl whole) recovers m past is may m2 past2 now =
      let done : Completes m past b = whole.done m past is may.finish tt in
      let at : CanRecover (newest done.run.added m) = calm_recovers (newest done.run.added m)
      (whole_calm a b m (newest done.run.added m) past (earlier done.run.added m past) whole may.finish is
      done.run.is) in
      let last : CanRecover m2 = recovers.firm (newest done.run.added m) (earlier done.run.added m past) done.run.is at
      m2 past2 now in
      finish_unnamed m2 last.firm (last.unnamed (view_of m2) (view_image m2))
  again_both r a b c (inr left) recovers m past is may m2 past2 now = absurd (form_left a b m past left is may.form)

  calm_both : (r : Result ℕ Fault) (a b c : Told) → r ≢ Err ends.DiskFault → IsFinished a b ⊎ IsLeft a b
      → RecoversSteps x made given r b c → MakesCalm a c
  calm_both r a b c other (inl whole) recovers m past is may m2 past2 now =
      let done : Completes m past b = whole.done m past is may.finish tt in
      (recovers.keeps other (newest done.run.added m) (earlier done.run.added m past) done.run.is
      (whole_calm a b m (newest done.run.added m) past (earlier done.run.added m past) whole may.finish is
      done.run.is) m2 past2 now).calm
  calm_both r a b c other (inr left) recovers m past is may m2 past2 now =
      absurd (form_left a b m past left is may.form)

  both_ends : (status : ℕ) (r : Result ℕ Fault) (a b c : Told) → FinishEnds (Ok status) a b
      → RecoversSteps x made given r b c → RecoversAll r a c
  both_ends status r a b c ended recovers = record {
    story = story_both r a b c ended.1 recovers;
    again = again_both r a b c ended.1 recovers;
    calm = λ ok. calm_both r a b c (λ is. fault_is r is ok) ended.1 recovers;
    keeps = λ other m past is may calm. calm_both r a b c other ended.1 recovers m past is may;
  }
    where
      fault_is : (r : Result ℕ Fault) → r ≡ Err ends.DiskFault → IsOk r → ⊥
      fault_is (Ok status) is ok = cc
      fault_is (Err fault) is ok = cc

-- finishing, and then a call that recovers names
pub both_recover : (x : Action) (made : Folder → List ℕ → List NamedStep) (given : List ℕ → Type 0) (status : ℕ)
    (r : Result ℕ Fault) (a b c : Told) → FinishEnds (Ok status) a b → RecoversSteps x made given r b c
    → RecoversAll r a c
both_recover x made given status r a b c ended recovers = both_ends x made given status r a b c ended recovers

-- ---- finishing that failed

plan_stays_calm : (a b : Told) → LosesPlan a b → StaysCalm a b
plan_stays_calm a b lost m past is may calm m2 past2 now =
    let run : Touching (bytes_eq plan_file) m past b = lost.touches m past is in
    subst IsCalm (newest_is m m2 past past2 run.added b run.is now) (plan_before m past b calm run).1

failed_keeps : (fault : Fault) (a b : Told) → FinishEnds (Err fault) a b → fault ≢ ends.DiskFault → StaysCalm a b
failed_keeps ends.Memory a b lost other = plan_stays_calm a b lost
failed_keeps ends.DiskFault a b cut other = absurd (other refl)
failed_keeps ends.ReadFault a b ended other = absurd ended
failed_keeps ends.WriteFault a b ended other = absurd ended

pub failed_recover : (fault : Fault) (a b : Told) → FinishEnds (Err fault) a b → RecoversAll (Err fault) a b
failed_recover fault a b ended = record {
  story = λ m past is may. (finish_leaves (Err fault) a b m past ended is may.finish).went;
  again = λ m past is may m2 past2 now. (let left : Leaves m past b = finish_leaves (Err fault) a b m past ended is
      may.finish in subst CanFinish (newest_is m m2 past past2 left.went.added b left.went.is now) left.can);
  calm = λ ok. absurd (cc);
  keeps = λ other. failed_keeps fault a b ended (λ e. other (ap Err e));
}
