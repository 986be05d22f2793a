-- A call that follows a list of steps, and one that follows what its status decides.
use Rattle.std.proofs.Common.{◌≢◌, ◌⊎◌, ℕ, ◌≤◌, Bool, List, [], ◌∷◌, ◌++◌, Option, Result, Ok, Err, inl, inr, refl, sym}
use Rattle.std.proofs.Common.{subst, arith}
use Rattle.sccs_base.specs.Stream.{GivesOk, GivesSome, Rose}
use Rattle.sccs_base.proofs.Gifts.{gives_both, gives_then}
use Rattle.sccs_disk.specs.Files.{Folder, Model, view_in}
use Rattle.sccs_disk.specs.Told.{Told, seen}
use Rattle.sccs_name_files.specs.StepFiles.{Shows}
use Rattle.sccs_name_files.specs.Touches.{earlier, newest}
use Rattle.sccs_crash_points.specs.Unlocked.{BeginsUnlockedBut}
use Rattle.sccs_crash_points.proofs.UnlockedBut.{but_then}
use Rattle.sccs_steps.specs.Calls.{World, shown}
use Rattle.sccs_steps.specs.Causes.{Counts, RunCauses}
use Rattle.sccs_steps.specs.ListStops.{Spares}
use Rattle.sccs_steps.specs.Settings.{Setting}
use Rattle.sccs_steps.specs.StepLists.{NamedStep, Ran, err_of, folder_after}
use Rattle.sccs_steps.specs.declared.faults.Fault.{Fault}
use Rattle.sccs_steps.proofs.JoinedSteps.{err_more, ran_then, stops_more, stops_then}
use Rattle.sccs_steps.proofs.Turns.{front_all, rest_all}
use Rattle.sccs_step_lists.specs.StepLists.{AllClear, AllExempt, AllPlain, AllSafe, AllTake, StepLists, NoneFinishes}
use Rattle.sccs_step_lists.specs.StepLists.{Portion, follow, portions_of, steps_along, steps_in}
use Rattle.sccs_step_lists.specs.Following.{AreKnown, BegunThen, StepListCrashPoints, FinishesFirst, MakesStepList}
use Rattle.sccs_step_lists.specs.Following.{RunsStepList, RunsTo, SpeaksTo, StopsStepList, UnlockedStepList, WholeThen}
use Rattle.sccs_step_lists.proofs.StepListCrashPointLaws.{keeps_now, may_now, more_crash_points, then_crash_points}
use Rattle.sccs_step_lists.proofs.Portions.{both_all, safe_later, steps_more}
use Rattle.sccs_base.proofs.Rises.{rose_later}

-- ---- the parts of what is said

pub runs_then : (code : ℕ) (w : List ℕ → Bool) (r : Result ℕ Fault) (m : Folder) (ts us : List NamedStep)
    (a b c : World) → Ran w m ts a b → RunsTo code w r (folder_after m ts) us b c → RunsTo code w r m (ts ++ us) a c
runs_then code w (Ok status) m ts us a b c first next = (next.0, ran_then w m ts us a b c first next.1)
runs_then code w (Err fault) m ts us a b c first next = stops_then w fault m ts us a b c first next

speaks_then : (whole : ℕ → List NamedStep → Type 0) (begun : List NamedStep → Type 0) (whole2 : ℕ → ℕ → List NamedStep
    → Type 0) (begun2 : ℕ → List NamedStep → Type 0) (one : ℕ) (r : Result ℕ Fault) (a b c : Option (List ℕ))
    → SpeaksTo whole begun (Ok one) a b → SpeaksTo (whole2 one) (begun2 one) r b c → SpeaksTo (WholeThen whole whole2)
    (BegunThen whole begun begun2) r a c
speaks_then whole begun whole2 begun2 one (Ok status) a b c first next = (
  first.0 ++ next.0,
  (one, first.0, next.0, refl, first.1, next.1),
  subst (λ text. GivesOk a c text) (sym (err_more first.0 next.0)) (gives_both a b c (err_of first.0)
      (err_of next.0) first.2 next.2),
)
speaks_then whole begun whole2 begun2 one (Err fault) a b c first next = (
  first.0 ++ next.0,
  inr (one, first.0, next.0, refl, first.1, next.1),
  subst (λ text. GivesSome a c text) (sym (err_more first.0 next.0)) (gives_then a b c (err_of first.0)
      (err_of next.0) first.2 next.2),
)

either_rose : (a b c d e f : ℕ) → a ≤ b → d ≤ e → Rose b c ⊎ Rose e f → Rose a c ⊎ Rose d f
either_rose a b c d e f one two (inl rose) = inl (rose_later a b c one rose)
either_rose a b c d e f one two (inr rose) = inr (rose_later d e f two rose)

pub causes_then : (one : ℕ) (r : Result ℕ Fault) (a b c : Counts) → RunCauses (Ok one) a b → RunCauses r b c
    → RunCauses r a c
causes_then one r a b c first next = record {
  input_later = (let x = first.input_later in let y = next.input_later in omega (arith, x, y));
  out_later = (let x = first.out_later in let y = next.out_later in omega (arith, x, y));
  err_later = (let x = first.err_later in let y = next.err_later in omega (arith, x, y));
  disk_later = (let x = first.disk_later in let y = next.disk_later in omega (arith, x, y));
  read = λ is. rose_later a.input b.input c.input first.input_later (next.read is);
  write = λ is. either_rose a.out b.out c.out a.err b.err c.err first.out_later first.err_later (next.write is);
  broke = λ is. rose_later a.disk b.disk c.disk first.disk_later (next.broke is);
}

-- what is known of several portions is known of the first ones
known_first : (told : Told) (folder : Folder) (ps qs : List Portion) → AreKnown told folder (ps ++ qs)
    → AreKnown told folder ps
known_first told folder ps qs (inl none) = inl (front_all _ ps qs none)
known_first told folder ps qs (inr (inl safe)) =
    inr (inl (record {
      model = safe.model;
      past = safe.past;
      is = safe.is;
      may = safe.may;
      safe =
          front_all _ ps qs safe.safe;
    }))
known_first told folder [] qs (inr (inr first)) = inl tt
known_first told folder (p ∷ ps) qs (inr (inr first)) = inr (inr (first.0, front_all _ ps qs first.1))

-- where the first of them takes working files none of those behind does
none_behind : (told : Told) (folder : Folder) (ps qs : List Portion) → ps ≢ [] → FinishesFirst told folder (ps ++ qs)
    → NoneFinishes qs
none_behind told folder [] qs some first = absurd (some refl)
none_behind told folder (p ∷ ps) qs some first = rest_all _ ps qs first.1

some_more : (ps qs : List Portion) → ps ≢ [] → ps ++ qs ≢ []
some_more [] qs some = absurd (some refl)
some_more (p ∷ ps) qs some = λ e. absurd cc

-- ---- to its end, and then the other

pub step_list_then : (first : StepLists) (rest : ℕ → StepLists) (given given1 given2 : List ℕ → Type 0)
    (whole : ℕ → List NamedStep → Type 0) (begun : List NamedStep → Type 0) (whole2 : ℕ → ℕ → List NamedStep → Type 0)
    (begun2 : ℕ → List NamedStep → Type 0) (one : ℕ) (r : Result ℕ Fault) (s t u : Setting)
    → ((i : List ℕ) → given i → given1 i) → ((i : List ℕ) → given i → given2 i)
    → ((code : ℕ) (folder : Folder) (i : List ℕ) → AllTake (portions_of (rest code) folder i))
    → RunsStepList first given1 whole begun (Ok one) s t → RunsStepList (rest one) given2 (whole2 one)
    (begun2 one) r t u → RunsStepList (follow first rest) given (WholeThen whole whole2)
    (BegunThen whole begun begun2) r s u
step_list_then first rest given given1 given2 whole begun whole2 begun2 one r s t u to1 to2 takes done next = record {
  some = λ folder i heard. some_more (portions_of first folder i) (rest_in folder i) (done.some folder i (to1 i heard));
  takes = λ folder i. both_all _ (portions_of first folder i) (rest_in folder i) (done.takes folder i)
      (takes (first folder i).status (left_in folder i) i);
  steps = λ w folder i spares clear shows known heard.
      steps_at w folder i spares clear shows known heard
      (done.steps w folder i spares (front_all _ (portions_of first folder i) (rest_in folder i) clear) shows
      (known_first s.stage.told folder (portions_of first folder i) (rest_in folder i) known) (to1 i heard));
  stops = λ w folder i m past spares clear shows heard told may safe.
      stops_at w folder i m past spares clear heard safe
      (done.steps w folder i spares (front_all _ (portions_of first folder i) (rest_in folder i) clear) shows
      (inr (inl (record {
        model = m;
        past = past;
        is = told;
        may = may;
        safe = front_all _ (portions_of first folder i)
            (rest_in folder i) safe;
      }))) (to1 i heard))
      (done.stops w folder i m past spares (front_all _ (portions_of first folder i) (rest_in folder i) clear) shows
      (to1 i heard) told may (front_all _ (portions_of first folder i) (rest_in folder i) safe));
  unlocked = λ w folder i spares clear shows known heard exempt plain freed.
      unlocked_at w folder i spares clear shows known heard exempt plain freed
      (done.steps w folder i spares (front_all _ (portions_of first folder i) (rest_in folder i) clear) shows
      (known_first s.stage.told folder (portions_of first folder i) (rest_in folder i) known) (to1 i heard));
  speaks = speaks_then whole begun whole2 begun2 one r s.stage.err t.stage.err u.stage.err done.speaks next.speaks;
  causes = causes_then one r s.faults t.faults u.faults done.causes next.causes;
}
  where
    left_in : Folder → List ℕ → Folder
    left_in folder i = folder_after folder (steps_along first folder i)

    rest_in : Folder → List ℕ → List Portion
    rest_in folder i = portions_of (rest (first folder i).status) (folder_after folder (steps_along first folder i)) i

    Began : (w : List ℕ → Bool) (folder : Folder) (i : List ℕ) → Type 0
    Began w folder i = RunsTo (first folder i).status w (Ok one) folder (steps_along first folder i) (shown s.stage)
        (shown t.stage)

    -- what is known behind the first
    known_rest : (w : List ℕ → Bool) (folder : Folder) (i : List ℕ) → Spares w
        → AllClear w (portions_of (follow first rest) folder i) → Shows w (seen s.stage.told) (view_in folder) → given i
        → AreKnown s.stage.told folder (portions_of (follow first rest) folder i)
        → AreKnown t.stage.told (left_in folder i) (rest_in folder i)
    known_rest w folder i spares clear shows heard (inl none) =
        inl (rest_all _ (portions_of first folder i) (rest_in folder i) none)
    known_rest w folder i spares clear shows heard (inr (inr begun)) =
        inl (none_behind s.stage.told folder (portions_of first folder i) (rest_in folder i)
        (done.some folder i (to1 i heard)) begun)
    known_rest w folder i spares clear shows heard (inr (inl safe)) =
        let crash_points : StepListCrashPoints w (Ok one) folder (steps_along first folder i) s.stage t.stage safe.model
        safe.past =
        done.stops w folder i safe.model safe.past spares (front_all _ (portions_of first folder i)
        (rest_in folder i) clear) shows (to1 i heard) safe.is safe.may (front_all _ (portions_of first folder i)
        (rest_in folder i) safe.safe) in
        inr (inl (record {
          model = newest crash_points.list.went.added safe.model;
          past = earlier crash_points.list.went.added safe.model safe.past;
          is = crash_points.list.went.is;
          may = may_now w one folder (steps_along first folder i) s.stage t.stage safe.model safe.past crash_points;
          safe = safe_later (rest_in folder i) (view_in folder) (view_in (left_in folder i))
              (keeps_now w one folder (steps_along first folder i) s.stage t.stage safe.model safe.past crash_points)
              (takes (first folder i).status (left_in folder i) i)
              (rest_all _ (portions_of first folder i) (rest_in folder i) safe.safe);
        }))

    steps_at : (w : List ℕ → Bool) (folder : Folder) (i : List ℕ) → Spares w
        → AllClear w (portions_of (follow first rest) folder i) → Shows w (seen s.stage.told) (view_in folder)
        → AreKnown s.stage.told folder (portions_of (follow first rest) folder i) → given i → Began w folder i
        → RunsTo (follow first rest folder i).status w r folder (steps_along (follow first rest) folder i)
        (shown s.stage) (shown u.stage)
    steps_at w folder i spares clear shows known heard ran =
        subst (λ (ts : List NamedStep). RunsTo (follow first rest folder i).status w r folder ts (shown s.stage)
        (shown u.stage)) (sym (steps_more (portions_of first folder i) (rest_in folder i)))
        (runs_then (follow first rest folder i).status w r folder (steps_along first folder i)
        (steps_in (rest_in folder i)) (shown s.stage) (shown t.stage) (shown u.stage) ran.1
        ((subst (λ code. MakesStepList (rest code) given2 r t.stage u.stage) ran.0 next.steps) w (left_in folder i) i
        spares (rest_all _ (portions_of first folder i) (rest_in folder i) clear) ran.1.view
        (known_rest w folder i spares clear shows heard known) (to2 i heard)))

    stops_at : (w : List ℕ → Bool) (folder : Folder) (i : List ℕ) (m : Model) (past : List Model) → Spares w
        → AllClear w (portions_of (follow first rest) folder i) → given i
        → AllSafe (view_in folder) (portions_of (follow first rest) folder i) → Began w folder i
        → StepListCrashPoints w (Ok one) folder (steps_along first folder i) s.stage t.stage m past
        → StepListCrashPoints w r folder (steps_along (follow first rest) folder i) s.stage u.stage m past
    stops_at w folder i m past spares clear heard safe ran crash_points =
        subst (λ (ts : List NamedStep). StepListCrashPoints w r folder ts s.stage u.stage m past)
        (sym (steps_more (portions_of first folder i) (rest_in folder i)))
        (then_crash_points w one r folder (steps_along first folder i) (steps_in (rest_in folder i)) s.stage t.stage
        u.stage m past ran.1 crash_points
        ((subst (λ code. StopsStepList (rest code) given2 r t.stage u.stage) ran.0 next.stops) w (left_in folder i) i
        (newest crash_points.list.went.added m) (earlier crash_points.list.went.added m past) spares
        (rest_all _ (portions_of first folder i) (rest_in folder i) clear) ran.1.view
        (to2 i heard) crash_points.list.went.is (may_now w one folder (steps_along first folder i) s.stage t.stage m
        past crash_points)
        (safe_later (rest_in folder i) (view_in folder) (view_in (left_in folder i))
        (keeps_now w one folder (steps_along first folder i) s.stage t.stage m past crash_points)
        (takes (first folder i).status (left_in folder i) i) (rest_all _ (portions_of first folder i)
        (rest_in folder i) safe))))

    unlocked_at : (w : List ℕ → Bool) (folder : Folder) (i : List ℕ) → Spares w
        → AllClear w (portions_of (follow first rest) folder i) → Shows w (seen s.stage.told) (view_in folder)
        → AreKnown s.stage.told folder (portions_of (follow first rest) folder i) → given i
        → (exempt : List ℕ → Bool) → AllPlain (portions_of (follow first rest) folder i)
        → AllExempt exempt (portions_of (follow first rest) folder i) → Began w folder i
        → BeginsUnlockedBut exempt s.stage.told u.stage.told
    unlocked_at w folder i spares clear shows known heard exempt plain freed ran =
        let ps : List Portion = portions_of first folder i in
        let qs : List Portion = rest_in folder i in
        but_then exempt s.stage.told t.stage.told u.stage.told (done.unlocked w folder i spares
        (front_all _ ps qs clear) shows (known_first s.stage.told folder ps qs known) (to1 i heard) exempt
        (front_all _ ps qs plain) (front_all _ ps qs freed))
        ((subst (λ code. UnlockedStepList (rest code) given2 t.stage.told u.stage.told) ran.0 next.unlocked) w
        (left_in folder i) i spares (rest_all _ ps qs clear) ran.1.view
        (known_rest w folder i spares clear shows heard known) (to2 i heard) exempt (rest_all _ ps qs plain)
        (rest_all _ ps qs freed))

-- ---- ended early

-- a call that ended a list of steps early ended what follows it too
pub step_list_cut : (first : StepLists) (rest : ℕ → StepLists) (given given1 : List ℕ → Type 0)
    (whole : ℕ → List NamedStep → Type 0) (begun : List NamedStep → Type 0) (whole2 : ℕ → ℕ → List NamedStep → Type 0)
    (begun2 : ℕ → List NamedStep → Type 0) (fault : Fault) (s t : Setting)
    → ((i : List ℕ) → given i → given1 i) → ((code : ℕ) (folder : Folder) (i : List ℕ)
    → AllTake (portions_of (rest code) folder i))
    → RunsStepList first given1 whole begun (Err fault) s t → RunsStepList (follow first rest) given
    (WholeThen whole whole2) (BegunThen whole begun begun2) (Err fault) s t
step_list_cut first rest given given1 whole begun whole2 begun2 fault s t to1 takes cut = record {
  some = λ folder i heard. some_more (portions_of first folder i) (rest_in folder i) (cut.some folder i (to1 i heard));
  takes = λ folder i. both_all _ (portions_of first folder i) (rest_in folder i) (cut.takes folder i)
      (takes (first folder i).status (folder_after folder (steps_along first folder i)) i);
  steps = λ w folder i spares clear shows known heard.
      subst (λ (ts : List NamedStep). RunsTo (follow first rest folder i).status w (Err fault) folder ts (shown s.stage)
      (shown t.stage)) (sym (steps_more (portions_of first folder i) (rest_in folder i)))
      (stops_more w fault folder (steps_along first folder i) (steps_in (rest_in folder i)) (shown s.stage)
      (shown t.stage) (cut.steps w folder i spares (front_all _ (portions_of first folder i)
      (rest_in folder i) clear) shows (known_first s.stage.told folder (portions_of first folder i)
      (rest_in folder i) known) (to1 i heard)));
  stops = λ w folder i m past spares clear shows heard told may safe.
      subst (λ (ts : List NamedStep). StepListCrashPoints w (Err fault) folder ts s.stage t.stage m past)
      (sym (steps_more (portions_of first folder i) (rest_in folder i)))
      (more_crash_points w fault folder (steps_along first folder i) (steps_in (rest_in folder i)) s.stage t.stage m
      past
      (cut.stops w folder i m past spares (front_all _ (portions_of first folder i) (rest_in folder i) clear) shows
      (to1 i heard) told may (front_all _ (portions_of first folder i) (rest_in folder i) safe)));
  unlocked = λ w folder i spares clear shows known heard exempt plain freed.
      cut.unlocked w folder i spares (front_all _ (portions_of first folder i) (rest_in folder i) clear) shows
      (known_first s.stage.told folder (portions_of first folder i) (rest_in folder i) known) (to1 i heard) exempt
      (front_all _ (portions_of first folder i) (rest_in folder i) plain) (front_all _ (portions_of first folder i)
      (rest_in folder i) freed);
  speaks = (cut.speaks.0, inl cut.speaks.1, cut.speaks.2);
  causes = cut.causes;
}
  where
    rest_in : Folder → List ℕ → List Portion
    rest_in folder i = portions_of (rest (first folder i).status) (folder_after folder (steps_along first folder i)) i
