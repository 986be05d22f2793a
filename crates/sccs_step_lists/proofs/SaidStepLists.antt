-- Texts that are said, nothing, and calls that never began.
use Rattle.std.proofs.Common.{◌≡◌, ◌≢◌, ℕ, ◌<◌, Bool, List, [], ◌∷◌, ◌++◌, length, Option, Result, Ok, Err, refl, sym}
use Rattle.std.proofs.Common.{subst, ◌∙◌, arith}
use Rattle.std.proofs.lemmas.List.{append-nil}
use Rattle.sccs_base.specs.Stream.{GivesOk, GivesSome}
use Rattle.sccs_base.proofs.Gifts.{gives_none, some_none, some_of_whole}
use Rattle.sccs_disk.specs.Files.{Folder, Model, View, view_in, view_of}
use Rattle.sccs_disk.specs.Images.{Allows}
use Rattle.sccs_disk.specs.Told.{Told, Tells, seen}
use Rattle.sccs_name_files.specs.StepFiles.{Shows}
use Rattle.sccs_name_files.specs.Touches.{Each}
use Rattle.sccs_crash_points.specs.CrashPoints.{EndsAfter}
use Rattle.sccs_crash_points.proofs.UnlockedBut.{but_same}
use Rattle.sccs_crash_points.proofs.Untouched.{before_after, same_before}
use Rattle.sccs_steps.specs.Calls.{Scene, World, shown}
use Rattle.sccs_steps.specs.Causes.{RunCauses}
use Rattle.sccs_steps.specs.ListStops.{KeepsSafeFrom, MayBegin}
use Rattle.sccs_steps.specs.Settings.{Setting}
use Rattle.sccs_steps.specs.StepLists.{NamedStep, ShowsNext, Stopped, Stops, next_text}
use Rattle.sccs_steps.specs.declared.faults.Fault.{Fault}
use Rattle.sccs_steps.specs.declared.faults.Fault.TheVariants as ends
use Rattle.sccs_steps.proofs.Cleared.{cleared_same}
use Rattle.sccs_steps.proofs.FirstMoved.{early_none, shows_none}
use Rattle.sccs_steps.proofs.JoinedSteps.{ran_none}
use Rattle.sccs_steps.proofs.CrashPointLists.{crash_points_never, crash_points_none}
use Rattle.sccs_steps.proofs.OneCrashPoint.{one_after}
use Rattle.sccs_steps.proofs.SafeImages.{images_now, told_once}
use Rattle.sccs_steps.proofs.Safety.{keeps_same}
use Rattle.sccs_step_lists.specs.StepLists.{AllTake, StepLists, Portion, nothing, portions_of, said, saying}
use Rattle.sccs_step_lists.specs.StepLists.{steps_along, steps_in}
use Rattle.sccs_step_lists.specs.Following.{StepListCrashPoints, MakesStepList, RunsStepList, RunsTo, SpeaksTo}
use Rattle.sccs_step_lists.specs.Following.{StopsStepList, UnlockedStepList}
use Rattle.sccs_step_lists.specs.Sayings.{BegunSaid, IsSaid, WholeNothing, WholeSaid}
use Rattle.sccs_step_lists.proofs.StepListCrashPointLaws.{step_list_crash_points}

still_shown : (w : List ℕ → Bool) (a b : Told) (folder : Folder) → b ≡ a → Shows w (seen a) (view_in folder)
    → Shows w (seen b) (view_in folder)
still_shown w a b folder same shows = subst (λ (t : Told). Shows w (seen t) (view_in folder)) (sym same) shows

same_seen : (a b : Told) → b ≡ a → seen b ≡ seen a
same_seen a b same = subst (λ (t : Told). seen t ≡ seen a) (sym same) refl

-- ---- texts

said_to : (out err : List ℕ) (code : ℕ) (w : List ℕ → Bool) (r : Result ℕ Fault) (folder : Folder) (a b : Scene)
    → b.told ≡ a.told → Shows w (seen a.told) (view_in folder) → IsSaid out err code r a b
    → RunsTo code w r folder (said out err ∷ []) (shown a) (shown b)
said_to out err code w (Ok status) folder a b same shows is = (
  is.0,
  record {
    view = still_shown w a.told b.told folder same shows;
    cleared = cleared_same w (seen a.told) (seen b.told) (same_seen a.told b.told same);
    out = subst (λ text. GivesOk a.out b.out text) (sym (append-nil out)) is.1;
    err = subst (λ text. GivesOk a.err b.err text) (sym (append-nil err)) is.2;
  },
)
said_to out err code w (Err ends.WriteFault) folder a b same shows is = record {
  made = said out err ∷ [];
  rest = [];
  is = refl;
  view = still_shown w a.told b.told folder same shows;
  cleared = cleared_same w (seen a.told) (seen b.told) (same_seen a.told b.told same);
  out = subst (λ text. GivesSome a.out b.out text) (sym (append-nil out) ∙ sym (append-nil (out ++ []))) is.0;
  err = subst (λ text. GivesSome a.err b.err text) (sym (append-nil err)) is.1;
}
said_to out err code w (Err ends.Memory) folder a b same shows is = absurd is
said_to out err code w (Err ends.ReadFault) folder a b same shows is = absurd is
said_to out err code w (Err ends.DiskFault) folder a b same shows is = absurd is

-- where nothing new is told each name is safe that was
said_images : (v : View) (m : Model) (past : List Model) (t : Told) → t ≡ Tells m past → (ends : EndsAfter v v m past t)
    → Each (Allows (KeepsSafeFrom m)) ends.0.added m
said_images v m past t is ends = subst (λ (xs : List Model). Each (Allows (KeepsSafeFrom m)) xs m)
    (told_once [] ends.0.added m past t is ends.0.is) (images_now m)

said_crash_points : (out err : List ℕ) (w : List ℕ → Bool) (r : Result ℕ Fault) (folder : Folder) (a b : Scene)
    (m : Model) (past : List Model) → b.told ≡ a.told → Shows w (seen a.told) (view_in folder) → a.told ≡ Tells m past
    → MayBegin folder m
    → GivesSome a.out b.out out → GivesSome a.err b.err err → StepListCrashPoints w r folder (said out err ∷ []) a b m
    past
said_crash_points out err w r folder a b m past same shows told may one two =
    let after : EndsAfter (view_of m) (view_of m) m past b.told = before_after (view_of m) m past b.told
    (same_before m past b.told may.calm (same ∙ told)) in
    step_list_crash_points w r folder (said out err ∷ []) a b m past
    (one_after w r folder (said out err) (view_of m) (view_of m) a b m past
    (record { old = may.recovers; new = may.recovers }) after one two
    (still_shown w a.told b.told folder same shows))
    (λ other. keeps_same (view_in folder)) (said_images (view_of m) m past b.told (same ∙ told) after)

said_stops : (out err : List ℕ) (code : ℕ) (w : List ℕ → Bool) (r : Result ℕ Fault) (folder : Folder) (a b : Scene)
    (m : Model) (past : List Model) → b.told ≡ a.told → Shows w (seen a.told) (view_in folder) → a.told ≡ Tells m past
    → MayBegin folder m
    → IsSaid out err code r a b → StepListCrashPoints w r folder (said out err ∷ []) a b m past
said_stops out err code w (Ok status) folder a b m past same shows told may is =
    said_crash_points out err w (Ok status) folder a b m past same shows told may (some_of_whole a.out b.out out is.1)
    (some_of_whole a.err b.err err is.2)
said_stops out err code w (Err ends.WriteFault) folder a b m past same shows told may is = said_crash_points out err w
    (Err ends.WriteFault) folder a b m past same shows told may is.0 is.1
said_stops out err code w (Err ends.Memory) folder a b m past same shows told may is = absurd is
said_stops out err code w (Err ends.ReadFault) folder a b m past same shows told may is = absurd is
said_stops out err code w (Err ends.DiskFault) folder a b m past same shows told may is = absurd is

said_speaks : (out err : List ℕ) (code : ℕ) (r : Result ℕ Fault) (a b : Scene) → IsSaid out err code r a b
    → SpeaksTo (WholeSaid out err code) (BegunSaid out err) r a.err b.err
said_speaks out err code (Ok status) a b is = (
  said out err ∷ [],
  (is.0, refl),
  subst (λ text. GivesOk a.err b.err text)
      (sym (append-nil err)) is.2,
)
said_speaks out err code (Err ends.WriteFault) a b is =
    (said out err ∷ [], refl, subst (λ text. GivesSome a.err b.err text) (sym (append-nil err)) is.1)
said_speaks out err code (Err ends.Memory) a b is = absurd is
said_speaks out err code (Err ends.ReadFault) a b is = absurd is
said_speaks out err code (Err ends.DiskFault) a b is = absurd is

pub said_step_list : (out err : List ℕ) (code : ℕ) (given : List ℕ → Type 0) (r : Result ℕ Fault) (s t : Setting)
    → t.stage.told ≡ s.stage.told → IsSaid out err code r s.stage t.stage → RunCauses r s.faults t.faults
    → RunsStepList (saying out err code) given (WholeSaid out err code) (BegunSaid out err) r s t
said_step_list out err code given r s t same is causes = record {
  some = λ folder i heard. λ e. absurd cc;
  takes = λ folder i. (λ changes n fits. absurd (cc), tt);
  steps = λ w folder i spares clear shows known heard. said_to out err code w r folder s.stage t.stage same shows is;
  stops = λ w folder i m past spares clear shows heard told may safe. said_stops out err code w r folder s.stage t.stage
      m past same shows told may is;
  unlocked = λ w folder i spares clear shows known heard exempt plain freed. but_same exempt s.stage.told t.stage.told
      same;
  speaks = said_speaks out err code r s.stage t.stage is;
  causes = causes;
}

-- ---- nothing

pub nothing_step_list : (code : ℕ) (given : List ℕ → Type 0) (begun : List NamedStep → Type 0) (s : Setting)
    → RunsStepList (nothing code) given (WholeNothing code) begun (Ok code) s s
nothing_step_list code given begun s = record {
  some = λ folder i heard. λ e. absurd cc;
  takes = λ folder i. (λ changes n fits. absurd (cc), tt);
  steps = λ w folder i spares clear shows known heard. (refl, ran_none w folder (shown s.stage) shows);
  stops = λ w folder i m past spares clear shows heard told may safe.
      step_list_crash_points w (Ok code) folder [] s.stage s.stage m past
      (crash_points_none w code folder s.stage m past told may shows) (λ other. keeps_same (view_in folder))
      (images_now m);
  unlocked = λ w folder i spares clear shows known heard exempt plain freed. but_same exempt s.stage.told s.stage.told
      refl;
  speaks = ([], (refl, refl), gives_none s.stage.err);
  causes = record {
    input_later = omega arith;
    out_later = omega arith;
    err_later = omega arith;
    disk_later = omega arith;
    read = λ is. absurd (cc);
    write = λ is. absurd (cc);
    broke = λ is. absurd (cc);
  };
}

-- ---- a call that never began

shows_next : (w : List ℕ → Bool) (told : Option View) (u : View) (ts : List NamedStep) → Shows w told u
    → ShowsNext w ts told u
shows_next w told u [] shows = shows
shows_next w told u (t ∷ ts) shows = shows_none w told u t ts shows

never_stopped : (w : List ℕ → Bool) (folder : Folder) (ts : List NamedStep) (a : World)
    → Shows w a.view (view_in folder) → Stopped w folder ts a a
never_stopped w folder ts a shows = record {
  made = [];
  rest = ts;
  is = refl;
  view = early_none w a.view (view_in folder) ts shows;
  cleared = cleared_same w a.view a.view refl;
  out = some_none a.out (next_text ts);
  err = some_none a.err [];
}

waits_never : (w : List ℕ → Bool) (folder : Folder) (ts : List NamedStep) (a : World) → 0 < length ts
    → Shows w a.view (view_in folder) → (s : Stopped w folder ts a a) × (0 < length s.rest)
waits_never w folder ts a some shows = (
  record {
    made = [];
    rest = ts;
    is = refl;
    view = early_none w a.view (view_in folder) ts shows;
    cleared = cleared_same w a.view a.view refl;
    out = some_none a.out (next_text ts);
    err = some_none a.err [];
  },
  some,
)

stops_never : (w : List ℕ → Bool) (fault : Fault) (folder : Folder) (ts : List NamedStep) (a : World) → 0 < length ts
    → Shows w a.view (view_in folder) → Stops w fault folder ts a a
stops_never w ends.Memory folder ts a some shows = waits_never w folder ts a some shows
stops_never w ends.ReadFault folder ts a some shows = waits_never w folder ts a some shows
stops_never w ends.WriteFault folder ts a some shows = never_stopped w folder ts a shows
stops_never w ends.DiskFault folder ts a some shows =
    record {
      made = [];
      rest = ts;
      is = refl;
      view = shows_next w a.view (view_in folder) ts shows;
      out =
          some_none a.out (next_text ts);
      err = some_none a.err [];
    }

-- where steps are there a portion is
with_steps : (ps : List Portion) → 0 < length (steps_in ps) → ps ≢ []
with_steps [] some = absurd (omega (arith, some))
with_steps (p ∷ ps) some = λ e. absurd cc

pub never_step_list : (step_list : StepLists) (given : List ℕ → Type 0) (whole : ℕ → List NamedStep → Type 0)
    (begun : List NamedStep → Type 0) (ts : List NamedStep) (fault : Fault) (s t : Setting)
    → ((folder : Folder) (i : List ℕ) → AllTake (portions_of step_list folder i)) → ((folder : Folder) (i : List ℕ)
    → 0 < length (steps_along step_list folder i)) → begun ts
    → t.stage ≡ s.stage → RunCauses (Err fault) s.faults t.faults → RunsStepList step_list given whole begun
    (Err fault) s t
never_step_list step_list given whole begun ts fault s t takes some might same causes = record {
  some = λ folder i heard. with_steps (portions_of step_list folder i) (some folder i);
  takes = takes;
  steps = subst (λ (b : Scene). MakesStepList step_list given (Err fault) s.stage b) (sym same)
      (λ w folder i spares clear shows known heard. stops_never w fault folder (steps_along step_list folder i)
      (shown s.stage) (some folder i) shows);
  stops = subst (λ (b : Scene). StopsStepList step_list given (Err fault) s.stage b) (sym same)
      (λ w folder i m past spares clear shows heard told may safe.
      step_list_crash_points w (Err fault) folder (steps_along step_list folder i) s.stage s.stage m past
      (crash_points_never w fault folder (steps_along step_list folder i) s.stage m past told may shows)
      (λ other. keeps_same (view_in folder)) (images_now m));
  unlocked = subst (λ (b : Scene). UnlockedStepList step_list given s.stage.told b.told) (sym same)
      (λ w folder i spares clear shows known heard exempt plain freed. but_same exempt s.stage.told s.stage.told refl);
  speaks = subst (λ (b : Scene). SpeaksTo whole begun (Err fault) s.stage.err b.err) (sym same)
      (ts, might, some_none s.stage.err _);
  causes = causes;
}
