-- The crash points of lists of steps.
use Rattle.std.proofs.Common.{◌≢◌, ℕ, Bool, List, ◌++◌, Result, Ok, Err, refl, sym, subst}
use Rattle.sccs_disk.specs.Files.{Folder, Model, View, view_in, view_of}
use Rattle.sccs_disk.specs.Images.{Allows}
use Rattle.sccs_name_files.specs.Touches.{Each, earlier, newest}
use Rattle.sccs_crash_points.specs.Recovery.{RecoversAs}
use Rattle.sccs_steps.specs.Calls.{Scene, shown}
use Rattle.sccs_steps.specs.ListStops.{KeepsSafe, KeepsSafeFrom, ListCrashPoints, MayBegin, view_at}
use Rattle.sccs_steps.specs.StepLists.{NamedStep, Ran, folder_after}
use Rattle.sccs_steps.specs.declared.faults.Fault.{Fault}
use Rattle.sccs_steps.specs.declared.faults.Fault.TheVariants as ends
use Rattle.sccs_steps.proofs.Fronts.{view_all, view_front, view_past}
use Rattle.sccs_steps.proofs.CrashPointLists.{acknowledged, crash_points_more, crash_points_then}
use Rattle.sccs_steps.proofs.SafeImages.{images_then}
use Rattle.sccs_steps.proofs.Safety.{keeps_then}
use Rattle.sccs_step_lists.specs.Following.{StepListCrashPoints}

pub step_list_crash_points : (w : List ℕ → Bool) (r : Result ℕ Fault) (folder : Folder) (ts : List NamedStep)
    (a b : Scene) (m : Model) (past : List Model) → (list : ListCrashPoints w r folder ts a b m past)
    → (r ≢ Err ends.DiskFault → KeepsSafe (view_in folder) (view_at folder ts list.number))
    → Each (Allows (KeepsSafeFrom m)) list.went.added m → StepListCrashPoints w r folder ts a b m past
step_list_crash_points w r folder ts a b m past list keeps images = record {
  list = list;
  acknowledged = acknowledged w r folder ts a b m past list;
  keeps = keeps;
  images = images;
}

-- behind all of some steps a call may begin
pub may_now : (w : List ℕ → Bool) (s : ℕ) (folder : Folder) (ts : List NamedStep) (a b : Scene) (m : Model)
    (past : List Model) → (crash_points : StepListCrashPoints w (Ok s) folder ts a b m past)
    → MayBegin (folder_after folder ts) (newest crash_points.list.went.added m)
may_now w s folder ts a b m past crash_points = record {
  calm = crash_points.list.calm (λ is. cc);
  recovers = subst (λ (v : View). RecoversAs v (view_of (newest crash_points.list.went.added m)))
      (view_all folder ts crash_points.list.number (crash_points.list.all refl)) (crash_points.list.recovers
      (λ is. cc));
}

-- and the names that were safe are safe
pub keeps_now : (w : List ℕ → Bool) (s : ℕ) (folder : Folder) (ts : List NamedStep) (a b : Scene) (m : Model)
    (past : List Model) → StepListCrashPoints w (Ok s) folder ts a b m past → KeepsSafe (view_in folder)
    (view_in (folder_after folder ts))
keeps_now w s folder ts a b m past crash_points = subst (λ (v : View). KeepsSafe (view_in folder) v)
    (view_all folder ts crash_points.list.number (crash_points.list.all refl)) (crash_points.keeps (λ is. cc))

-- one list behind another
pub then_crash_points : (w : List ℕ → Bool) (s : ℕ) (r : Result ℕ Fault) (folder : Folder) (ts us : List NamedStep)
    (a b c : Scene) (m : Model) (past : List Model) → Ran w folder ts (shown a) (shown b)
    → (first : StepListCrashPoints w (Ok s) folder ts a b m past) → StepListCrashPoints w r (folder_after folder ts) us
    b c (newest first.list.went.added m) (earlier first.list.went.added m past) → StepListCrashPoints w r folder
    (ts ++ us) a c m past
then_crash_points w s r folder ts us a b c m past ran first next =
    step_list_crash_points w r folder (ts ++ us) a c m past (crash_points_then w s r folder ts us a b c m past ran
    first.list next.list)
    (λ other. subst (λ (v : View). KeepsSafe (view_in folder) v) (sym (view_past folder ts us next.list.number))
    (keeps_then (view_in folder) (view_in (folder_after folder ts))
    (view_at (folder_after folder ts) us next.list.number) (keeps_now w s folder ts a b m past first)
    (next.keeps other)))
    (images_then next.list.went.added first.list.went.added m first.images next.images)

-- a list that ended early ended so for every longer list
pub more_crash_points : (w : List ℕ → Bool) (fault : Fault) (folder : Folder) (ts us : List NamedStep) (a b : Scene)
    (m : Model) (past : List Model) → StepListCrashPoints w (Err fault) folder ts a b m past
    → StepListCrashPoints w (Err fault) folder (ts ++ us) a b m past
more_crash_points w fault folder ts us a b m past first =
    step_list_crash_points w (Err fault) folder (ts ++ us) a b m past (crash_points_more w fault folder ts us a b m past
    first.list)
    (λ other. subst (λ (v : View). KeepsSafe (view_in folder) v)
    (sym (view_front folder ts us first.list.number first.list.most)) (first.keeps other)) first.images
