-- What a call says that follows a list of steps, where the working files are those of the names of its steps.
use Rattle.std.specs.Prelude.{◌≡◌, ℕ, Bool, false, ◌&&◌, ◌||◌, List, [], ◌∷◌, if◌then◌else◌, Result}
use Rattle.std.specs.Str.{bytes_eq}
use Rattle.sccs_disk.specs.Files.{Folder, Model, view_in}
use Rattle.sccs_disk.specs.Told.{Told, Tells, seen}
use Rattle.sccs_name_files.specs.StepFiles.{Shows, is_working, nowhere}
use Rattle.sccs_intents.specs.Intents.{plan_file}
use Rattle.sccs_crash_points.specs.Unlocked.{BeginsUnlockedBut}
use Rattle.sccs_steps.specs.Actions.{Action}
use Rattle.sccs_steps.specs.Calls.{Scene, shown}
use Rattle.sccs_steps.specs.ListStops.{MayBegin}
use Rattle.sccs_steps.specs.StepLists.{NamedStep}
use Rattle.sccs_steps.specs.declared.faults.Fault.{Fault}
use Rattle.sccs_step_lists.specs.StepLists.{AllClear, AllExempt, AllPlain, AllSafe, StepLists, Portion, portions_of}
use Rattle.sccs_step_lists.specs.StepLists.{steps_along}
use Rattle.sccs_step_lists.specs.Following.{AreKnown, StepListCrashPoints, RunsTo}

-- the working files of the names of steps
abbrev pub working_of : Action → List NamedStep → List ℕ → Bool
working_of x [] k = false
working_of x (t ∷ ts) k = (x.fits t.name && is_working t.name k) || working_of x ts k

-- those of the steps of an action, and the plan where it is one; an action that only reads has none
abbrev pub working_by : Portion → List ℕ → Bool
working_by p = if p.by.reads then nowhere else (λ k. (p.plans && bytes_eq plan_file k) || working_of p.by p.parts k)

-- those of several actions
abbrev pub working_in : List Portion → List ℕ → Bool
working_in [] = nowhere
working_in (p ∷ []) = working_by p
working_in (p ∷ q ∷ ps) = λ k. working_by p k || working_in (q ∷ ps) k

abbrev pub working_along : StepLists → Folder → List ℕ → List ℕ → Bool
working_along step_list folder i = working_in (portions_of step_list folder i)

-- the input is as it is asked, and the files of the names of steps are apart from the working files of others
abbrev pub IsGivenTo : StepLists → (List ℕ → Type 0) → Folder → List ℕ → Type 0
IsGivenTo step_list given folder i = given i × AllClear (working_along step_list folder i)
    (portions_of step_list folder i)

abbrev pub MakesOwn : StepLists → (List ℕ → Type 0) → Result ℕ Fault → Scene → Scene → Type 0
MakesOwn step_list given r a b = (folder : Folder) (i : List ℕ) → IsGivenTo step_list given folder i
    → Shows (working_along step_list folder i) (seen a.told) (view_in folder)
    → AreKnown a.told folder (portions_of step_list folder i)
    → RunsTo (step_list folder i).status (working_along step_list folder i) r folder (steps_along step_list folder i)
    (shown a) (shown b)

abbrev pub StopsOwn : StepLists → (List ℕ → Type 0) → Result ℕ Fault → Scene → Scene → Type 0
StopsOwn step_list given r a b = (folder : Folder) (i : List ℕ) (m : Model) (past : List Model)
    → IsGivenTo step_list given folder i → Shows (working_along step_list folder i) (seen a.told) (view_in folder)
    → a.told ≡ Tells m past → MayBegin folder m → AllSafe (view_in folder) (portions_of step_list folder i)
    → StepListCrashPoints (working_along step_list folder i) r folder (steps_along step_list folder i) a b m past

abbrev pub UnlockedOwn : StepLists → (List ℕ → Type 0) → Told → Told → Type 0
UnlockedOwn step_list given old new = (folder : Folder) (i : List ℕ) → IsGivenTo step_list given folder i
    → Shows (working_along step_list folder i) (seen old) (view_in folder)
    → AreKnown old folder (portions_of step_list folder i)
    → (exempt : List ℕ → Bool) → AllPlain (portions_of step_list folder i)
    → AllExempt exempt (portions_of step_list folder i) → BeginsUnlockedBut exempt old new
