-- What a stop leaves of the steps of things that are done in turn.
use Rattle.std.proofs.Common.{◌≡◌, ◌≢◌, ℕ, ◌+◌, ◌<◌, ◌≤◌, Bool, List, ◌++◌, drop, get_or, length, Result, Ok, Err, refl}
use Rattle.std.proofs.Common.{sym, ap, subst, ◌∙◌, append_assoc, arith, length-append}
use Rattle.std.proofs.Math.ListN.{drop_of_length-le}
use Rattle.std.proofs.lemmas.List.{append-nil}
use Rattle.sccs_disk.specs.Files.{Folder, Model, View, view_in, view_of}
use Rattle.sccs_disk.specs.Images.{Allows}
use Rattle.sccs_disk.specs.Told.{Tells, seen}
use Rattle.sccs_name_files.specs.StepFiles.{Shows}
use Rattle.sccs_name_files.specs.Touches.{Each, earlier, newest}
use Rattle.sccs_crash_points.specs.Recovery.{RecoversAs}
use Rattle.sccs_steps.specs.Actions.{Action, AreClear}
use Rattle.sccs_steps.specs.Calls.{Scene, shown}
use Rattle.sccs_steps.specs.ListStops.{AreSafe, KeepsSafe, KeepsSafeFrom, ListCrashPoints, MayBegin, RunCrashPoints}
use Rattle.sccs_steps.specs.ListStops.{Spares, StaySafe, view_at}
use Rattle.sccs_steps.specs.StepLists.{NamedStep, Runs, SoFar, folder_after, in_turn}
use Rattle.sccs_steps.specs.declared.faults.Fault.{Fault}
use Rattle.sccs_steps.specs.declared.faults.Fault.TheVariants.{DiskFault}
use Rattle.sccs_steps.specs.Statuses.{idle_status, joined_status}
use Rattle.sccs_steps.proofs.JoinedSteps.{after_more, begins, goes_on}
use Rattle.sccs_steps.proofs.Fronts.{view_all, view_front, view_past}
use Rattle.sccs_steps.proofs.CrashPointLists.{crash_points_more, crash_points_none, crash_points_then, run_crash_points}
use Rattle.sccs_steps.proofs.SafeImages.{images_now, images_then}
use Rattle.sccs_steps.proofs.Safety.{keeps_same, keeps_then, stay_on, stay_same}
use Rattle.sccs_steps.proofs.Turns.{each_all, next_all, next_turn}

-- The steps of the first things are made: their crash points, and the names that are safe still.
pub record StopsSoFar (x : Action) (w : List ℕ → Bool) (folder : Folder) (all : List NamedStep) (left : Folder
    → List NamedStep) (status : ℕ) (a b : Scene) (m : Model) (past : List Model) : Type 0 where
  pub so : SoFar x.rule w folder all left status (shown a) (shown b)
  pub list : ListCrashPoints w (Ok status) folder so.made a b m past
  pub safe : StaySafe x (view_in folder) (view_in (folder_after folder so.made))
  pub keeps : KeepsSafe (view_in folder) (view_in (folder_after folder so.made))
  pub images : Each (Allows (KeepsSafeFrom m)) list.went.added m

pub stops_begin : (x : Action) (w : List ℕ → Bool) (folder : Folder) (left : Folder → List NamedStep) (status : ℕ)
    (a : Scene) (m : Model) (past : List Model) → status ≡ idle_status x.rule → Spares w
    → Shows w (seen a.told) (view_in folder) → a.told ≡ Tells m past → MayBegin folder m
    → StopsSoFar x w folder (left folder) left status a a m past
stops_begin x w folder left status a m past idle spares shows is calm =
    record {
      so = begins x.rule w folder left status (shown a) idle shows;
      list =
          crash_points_none w status folder a m past is calm shows;
      safe = stay_same x (view_in folder);
      keeps =
          keeps_same (view_in folder);
      images = images_now m;
    }

-- another status
abbrev pub ok_crash_points : (w : List ℕ → Bool) (s s2 : ℕ) (folder : Folder) (ts : List NamedStep) (a b : Scene)
    (m : Model) (past : List Model) → ListCrashPoints w (Ok s) folder ts a b m past
    → ListCrashPoints w (Ok s2) folder ts a b m past
ok_crash_points w s s2 folder ts a b m past l = record {
  number = l.number;
  most = l.most;
  went = l.went;
  out = l.out;
  err = l.err;
  all = λ ok. l.all refl;
  calm = λ other. l.calm (λ is. cc);
  committed = λ other. l.committed (λ is. cc);
  recovers = λ other. l.recovers (λ is. cc);
  firm = l.firm;
}

-- the next one, on the disk as it is now
abbrev pub NextCrashPoints : Action → (List ℕ → Bool) → (Folder → List ℕ → List NamedStep) → List ℕ → Result ℕ Fault
    → Scene → Scene → Type 0
NextCrashPoints x w steps thing r b c = (u : Folder) (m : Model) (past : List Model) → AreClear x w (steps u thing)
    → Shows w (seen b.told) (view_in u) → b.told ≡ Tells m past → MayBegin u m → AreSafe x (steps u thing) (view_in u)
    → RunCrashPoints x w r u (steps u thing) b c m past

-- behind all of some steps the next may begin
may_now : (folder : Folder) (ts : List NamedStep) (w : List ℕ → Bool) (r : Result ℕ Fault) (a b : Scene) (m : Model)
    (past : List Model) → (list : ListCrashPoints w r folder ts a b m past) → r ≢ Err DiskFault
    → list.number ≡ length ts → MayBegin (folder_after folder ts) (newest list.went.added m)
may_now folder ts w r a b m past list other all = record {
  calm = list.calm other;
  recovers = subst (λ (v : View). RecoversAs v (view_of (newest list.went.added m)))
      (view_all folder ts list.number all) (list.recovers other);
}

next_crash_points : (x : Action) (w : List ℕ → Bool) (folder : Folder) (steps : Folder → List ℕ → List NamedStep)
    (things : List (List ℕ)) (k status : ℕ) (r : Result ℕ Fault) (item thing : List ℕ) (a b c : Scene) (m : Model)
    (past : List Model) → thing ≡ get_or things k item → k < length things
    → AreClear x w (in_turn steps folder things) → AreSafe x (in_turn steps folder things) (view_in folder)
    → (far : StopsSoFar x w folder (in_turn steps folder things) (λ u. in_turn steps u (drop k things)) status a b m
    past) → NextCrashPoints x w steps thing r b c
    → RunCrashPoints x w r (folder_after folder far.so.made) (steps (folder_after folder far.so.made)
    (get_or things k item)) b c (newest far.list.went.added m) (earlier far.list.went.added m past)
next_crash_points x w folder steps things k status r item thing a b c m past is below clear safe far next =
    let u : Folder = folder_after folder far.so.made in
    subst (λ t. RunCrashPoints x w r u (steps u t) b c (newest far.list.went.added m)
    (earlier far.list.went.added m past)) is
    (next u (newest far.list.went.added m) (earlier far.list.went.added m past)
    (next_all x.rule _ w folder steps things k status item thing (shown a) (shown b) is below far.so clear)
    far.so.ran.view far.list.went.is (may_now folder far.so.made w (Ok status) a b m past far.list (λ is. cc)
    (far.list.all refl))
    (each_all _ _ (steps u thing) (λ t before fits. far.safe t.name fits (before fits))
    (next_all x.rule _ w folder steps things k status item thing (shown a) (shown b) is below far.so safe)))

pub stops_on : (x : Action) (w : List ℕ → Bool) (folder : Folder) (steps : Folder → List ℕ → List NamedStep)
    (things : List (List ℕ)) (k status one : ℕ) (item thing : List ℕ) (a b c : Scene) (m : Model) (past : List Model)
    → thing ≡ get_or things k item → k < length things
    → AreClear x w (in_turn steps folder things) → AreSafe x (in_turn steps folder things) (view_in folder)
    → StopsSoFar x w folder (in_turn steps folder things) (λ u. in_turn steps u (drop k things)) status a b m past
    → ((u : Folder) → AreClear x w (steps u thing) → Shows w (seen b.told) (view_in u) → Runs x.rule w (Ok one) u
    (steps u thing) (shown b) (shown c)) → NextCrashPoints x w steps thing (Ok one) b c
    → StopsSoFar x w folder (in_turn steps folder things) (λ u. in_turn steps u (drop (k + 1) things))
    (joined_status x.rule status one) a c m past
stops_on x w folder steps things k status one item thing a b c m past is below clear safe far runs stops =
    by (subst (λ t. Runs x.rule w (Ok one) (folder_after folder far.so.made) (steps (folder_after folder far.so.made) t)
    (shown b) (shown c)) is
    (runs (folder_after folder far.so.made) (next_all x.rule _ w folder steps things k status item thing (shown a)
    (shown b) is below far.so clear) far.so.ran.view))
    (next_crash_points x w folder steps things k status (Ok one) item thing a b c m past is below clear safe far stops)
  where
    by : Runs x.rule w (Ok one) (folder_after folder far.so.made) (steps (folder_after folder far.so.made)
        (get_or things k item)) (shown b) (shown c)
        → RunCrashPoints x w (Ok one) (folder_after folder far.so.made) (steps (folder_after folder far.so.made)
        (get_or things k item)) b c (newest far.list.went.added m) (earlier far.list.went.added m past)
        → StopsSoFar x w folder (in_turn steps folder things) (λ u. in_turn steps u (drop (k + 1) things))
        (joined_status x.rule status one) a c m past
    by ran next = record {
      so =
          goes_on x.rule w folder (in_turn steps folder things) (λ u. in_turn steps u (drop k things))
          (λ u. steps u (get_or things k item)) (λ u. in_turn steps u (drop (k + 1) things)) status one (shown a)
          (shown b) (shown c) (next_turn steps things k item below) far.so ran;
      list =
          ok_crash_points w one (joined_status x.rule status one) folder
          (far.so.made ++ steps (folder_after folder far.so.made) (get_or things k item)) a c m past
          (crash_points_then w status (Ok one) folder far.so.made (steps (folder_after folder far.so.made)
          (get_or things k item)) a b c m past far.so.ran far.list next.list);
      safe =
          subst (λ (u : Folder). StaySafe x (view_in folder) (view_in u))
          (sym (after_more folder far.so.made (steps (folder_after folder far.so.made) (get_or things k item))))
          (stay_on x (view_in folder) (view_in (folder_after folder far.so.made))
          (view_in (folder_after (folder_after folder far.so.made) (steps (folder_after folder far.so.made)
          (get_or things k item)))) far.safe
          (subst (λ (v : View). StaySafe x (view_in (folder_after folder far.so.made)) v)
          (view_all (folder_after folder far.so.made) (steps (folder_after folder far.so.made)
          (get_or things k item)) next.list.number (next.list.all refl)) (next.safe (λ other. cc))));
      keeps =
          subst (λ (u : Folder). KeepsSafe (view_in folder) (view_in u))
          (sym (after_more folder far.so.made (steps (folder_after folder far.so.made) (get_or things k item))))
          (keeps_then (view_in folder) (view_in (folder_after folder far.so.made))
          (view_in (folder_after (folder_after folder far.so.made) (steps (folder_after folder far.so.made)
          (get_or things k item)))) far.keeps
          (subst (λ (v : View). KeepsSafe (view_in (folder_after folder far.so.made)) v)
          (view_all (folder_after folder far.so.made) (steps (folder_after folder far.so.made)
          (get_or things k item)) next.list.number (next.list.all refl)) (next.keeps (λ other. cc))));
      images = images_then next.list.went.added far.list.went.added m far.images next.images;
    }

pub stops_early : (x : Action) (w : List ℕ → Bool) (folder : Folder) (steps : Folder → List ℕ → List NamedStep)
    (things : List (List ℕ)) (k status : ℕ) (fault : Fault) (item thing : List ℕ) (a b c : Scene) (m : Model)
    (past : List Model) → thing ≡ get_or things k item → k < length things
    → AreClear x w (in_turn steps folder things) → AreSafe x (in_turn steps folder things) (view_in folder)
    → StopsSoFar x w folder (in_turn steps folder things) (λ u. in_turn steps u (drop k things)) status a b m past
    → NextCrashPoints x w steps thing (Err fault) b c
    → RunCrashPoints x w (Err fault) folder (in_turn steps folder things) a c m past
stops_early x w folder steps things k status fault item thing a b c m past is below clear safe far stops =
    by (next_crash_points x w folder steps things k status (Err fault) item thing a b c m past is below clear safe far
    stops)
  where
    all : (far.so.made ++ steps (folder_after folder far.so.made) (get_or things k item)) ++ in_turn steps
        (folder_after (folder_after folder far.so.made) (steps (folder_after folder far.so.made)
        (get_or things k item))) (drop (k + 1) things) ≡ in_turn steps folder things
    all =
        append_assoc far.so.made (steps (folder_after folder far.so.made) (get_or things k item))
        (in_turn steps (folder_after (folder_after folder far.so.made) (steps (folder_after folder far.so.made)
        (get_or things k item))) (drop (k + 1) things))
        ∙ (ap (λ (ts : List NamedStep). far.so.made ++ ts)
        (sym (next_turn steps things k item below (folder_after folder far.so.made))) ∙ sym far.so.is)

    by : RunCrashPoints x w (Err fault) (folder_after folder far.so.made) (steps (folder_after folder far.so.made)
        (get_or things k item)) b c (newest far.list.went.added m) (earlier far.list.went.added m past)
        → RunCrashPoints x w (Err fault) folder (in_turn steps folder things) a c m past
    by next =
        let u : Folder = folder_after folder far.so.made in
        let more : List NamedStep = steps u (get_or things k item) in
        let rest : List NamedStep = in_turn steps (folder_after u more) (drop (k + 1) things) in
        subst (λ (ts : List NamedStep). RunCrashPoints x w (Err fault) folder ts a c m past) all
        (run_crash_points x w (Err fault) folder ((far.so.made ++ more) ++ rest) a c m past
        (crash_points_more w fault folder (far.so.made ++ more) rest a c m past (crash_points_then w status
        (Err fault) folder far.so.made more a b c m past far.so.ran far.list next.list))
        (λ other. subst (λ (v : View). StaySafe x (view_in folder) v)
        (sym (view_front folder (far.so.made ++ more) rest (length far.so.made + next.list.number) (let low =
        next.list.most in omega (arith, low, length-append far.so.made more))
        ∙ view_past folder far.so.made more next.list.number))
        (stay_on x (view_in folder) (view_in u) (view_at u more next.list.number) far.safe (next.safe other)))
        (λ other. subst (λ (v : View). KeepsSafe (view_in folder) v)
        (sym (view_front folder (far.so.made ++ more) rest (length far.so.made + next.list.number) (let low =
        next.list.most in omega (arith, low, length-append far.so.made more))
        ∙ view_past folder far.so.made more next.list.number))
        (keeps_then (view_in folder) (view_in u) (view_at u more next.list.number) far.keeps (next.keeps other)))
        (images_then next.list.went.added far.list.went.added m far.images next.images))

pub stops_end : (x : Action) (w : List ℕ → Bool) (folder : Folder) (steps : Folder → List ℕ → List NamedStep)
    (things : List (List ℕ)) (k status : ℕ) (a b : Scene) (m : Model) (past : List Model) → length things ≤ k
    → StopsSoFar x w folder (in_turn steps folder things) (λ u. in_turn steps u (drop k things)) status a b m past
    → RunCrashPoints x w (Ok status) folder (in_turn steps folder things) a b m past
stops_end x w folder steps things k status a b m past all far =
    subst (λ (ts : List NamedStep). RunCrashPoints x w (Ok status) folder ts a b m past) is
    (run_crash_points x w (Ok status) folder far.so.made a b m past far.list
    (λ other. subst (λ (v : View). StaySafe x (view_in folder) v)
    (sym (view_all folder far.so.made far.list.number (far.list.all refl))) far.safe)
    (λ other. subst (λ (v : View). KeepsSafe (view_in folder) v)
    (sym (view_all folder far.so.made far.list.number (far.list.all refl))) far.keeps) far.images)
  where
    is : far.so.made ≡ in_turn steps folder things
    is = sym (append-nil far.so.made) ∙ (ap (λ (ts : List NamedStep). far.so.made ++ ts)
        (sym (ap (λ (rest : List (List ℕ)). in_turn steps (folder_after folder far.so.made) rest)
        (drop_of_length-le things all))) ∙ sym far.so.is)
