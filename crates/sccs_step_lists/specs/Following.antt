-- What a call says that follows a list of steps.
use Rattle.std.specs.Prelude.{◌≡◌, ◌≢◌, ◌⊎◌, ℕ, suc, ◌<◌, ◌≤◌, Bool, List, [], ◌∷◌, ◌++◌, length, Option, IfSome}
use Rattle.std.specs.Prelude.{Result, Ok, Err}
use Rattle.sccs_base.specs.Stream.{GivesOk, GivesSome}
use Rattle.sccs_disk.specs.Files.{Folder, Model, View, view_in}
use Rattle.sccs_disk.specs.Images.{Allows}
use Rattle.sccs_disk.specs.Told.{Told, Tells, seen}
use Rattle.sccs_name_files.specs.StepFiles.{Shows}
use Rattle.sccs_name_files.specs.Touches.{Each}
use Rattle.sccs_crash_points.specs.Recovery.{RecoversAs}
use Rattle.sccs_crash_points.specs.Unlocked.{BeginsUnlockedBut}
use Rattle.sccs_steps.specs.Calls.{Scene, World, shown}
use Rattle.sccs_steps.specs.Causes.{RunCauses}
use Rattle.sccs_steps.specs.ListStops.{IsAcknowledged, KeepsSafe, KeepsSafeFrom, ListCrashPoints, MayBegin, Spares}
use Rattle.sccs_steps.specs.ListStops.{view_at}
use Rattle.sccs_steps.specs.Settings.{Setting}
use Rattle.sccs_steps.specs.StepLists.{NamedStep, Ran, Stops, err_of, status_of}
use Rattle.sccs_steps.specs.declared.faults.Fault.{Fault}
use Rattle.sccs_steps.specs.declared.faults.Fault.TheVariants as ends
use Rattle.sccs_steps.specs.declared.statuses.StatusRule.{StatusRule}
use Rattle.sccs_step_lists.specs.StepLists.{AllClear, AllExempt, AllPlain, AllSafe, AllTake, StepLists, NoneFinishes}
use Rattle.sccs_step_lists.specs.StepLists.{Portion, portions_of, steps_along}

-- what a call answers, and leaves, that makes these steps and then has this status
abbrev pub RunsTo : ℕ → (List ℕ → Bool) → Result ℕ Fault → Folder → List NamedStep → World → World → Type 0
RunsTo code w (Ok status) m ts a b = (status ≡ code) × Ran w m ts a b
RunsTo code w (Err fault) m ts a b = Stops w fault m ts a b

-- The disk is calm and recovers as the folder does, and the names of the steps are safe.
pub record BeginsSafe (told : Told) (folder : Folder) (ps : List Portion) : Type 0 where
  pub model : Model
  pub past : List Model
  pub is : told ≡ Tells model past
  pub may : MayBegin folder model
  pub safe : AllSafe (view_in folder) ps

-- what is told recovers as the folder does
abbrev pub RecoversTold : Told → Folder → Type 0
RecoversTold told folder = IfSome (seen told) (λ (u : View). RecoversAs (view_in folder) u)

-- the first portion alone takes working files, and what is told recovers as the folder does
abbrev pub FinishesFirst : Told → Folder → List Portion → Type 0
FinishesFirst told folder [] = ⊥
FinishesFirst told folder (p ∷ ps) = RecoversTold told folder × NoneFinishes ps

-- working files may differ from the folder's: none is taken, or they recover as the folder does
abbrev pub AreKnown : Told → Folder → List Portion → Type 0
AreKnown told folder ps = NoneFinishes ps ⊎ (BeginsSafe told folder ps ⊎ FinishesFirst told folder ps)

-- where the disk tells a folder and the input is given the list of steps is followed, or the call ends early
abbrev pub MakesStepList : StepLists → (List ℕ → Type 0) → Result ℕ Fault → Scene → Scene → Type 0
MakesStepList step_list given r a b = (w : List ℕ → Bool) (folder : Folder) (i : List ℕ)
    → Spares w → AllClear w (portions_of step_list folder i) → Shows w (seen a.told) (view_in folder)
    → AreKnown a.told folder (portions_of step_list folder i) → given i
    → RunsTo (step_list folder i).status w r folder (steps_along step_list folder i) (shown a) (shown b)

-- The crash points of all steps: one number for each moment, over all of them.
pub record StepListCrashPoints (w : List ℕ → Bool) (r : Result ℕ Fault) (folder : Folder) (ts : List NamedStep)
    (a b : Scene) (m : Model) (past : List Model) : Type 0 where
  pub list : ListCrashPoints w r folder ts a b m past
  -- the last number is at least that of each step that is acknowledged
  pub acknowledged : (k : ℕ) → k < length ts → IsAcknowledged r ts k (shown a) (shown b) → suc k ≤ list.number
  -- but at a disk fault the names that were safe are safe again
  pub keeps : r ≢ Err ends.DiskFault → KeepsSafe (view_in folder) (view_at folder ts list.number)
  -- and whatever a stop leaves, in it each s-file's name is safe that was safe in whatever one could leave at the start
  pub images : Each (Allows (KeepsSafeFrom m)) list.went.added m

-- what a stop leaves of a list of steps that begins on a calm disk, where the names of its steps are safe
abbrev pub StopsStepList : StepLists → (List ℕ → Type 0) → Result ℕ Fault → Scene → Scene → Type 0
StopsStepList step_list given r a b = (w : List ℕ → Bool) (folder : Folder) (i : List ℕ) (m : Model) (past : List Model)
    → Spares w → AllClear w (portions_of step_list folder i) → Shows w (seen a.told) (view_in folder) → given i
    → a.told ≡ Tells m past → MayBegin folder m → AllSafe (view_in folder) (portions_of step_list folder i)
    → StepListCrashPoints w r folder (steps_along step_list folder i) a b m past

-- before each change of an s-file or p-file its z-file wasn't there at a moment of the call, but of the names of steps
-- that don't lock them
abbrev pub UnlockedStepList : StepLists → (List ℕ → Type 0) → Told → Told → Type 0
UnlockedStepList step_list given old new = (w : List ℕ → Bool) (folder : Folder) (i : List ℕ)
    → Spares w → AllClear w (portions_of step_list folder i) → Shows w (seen old) (view_in folder)
    → AreKnown old folder (portions_of step_list folder i) → given i
    → (exempt : List ℕ → Bool) → AllPlain (portions_of step_list folder i)
    → AllExempt exempt (portions_of step_list folder i) → BeginsUnlockedBut exempt old new

-- over any disk: some steps explain the status and what is written on err, whole ones at Ok, and else some that were
-- begun
abbrev pub SpeaksTo : (ℕ → List NamedStep → Type 0) → (List NamedStep → Type 0) → Result ℕ Fault → Option (List ℕ)
    → Option (List ℕ) → Type 0
SpeaksTo whole begun (Ok status) err err2 = (ts : List NamedStep) × whole status ts × GivesOk err err2 (err_of ts)
SpeaksTo whole begun (Err fault) err err2 = (ts : List NamedStep) × begun ts × GivesSome err err2 (err_of ts)

-- What a call says that follows a list of steps.
pub record RunsStepList (step_list : StepLists) (given : List ℕ → Type 0) (whole : ℕ → List NamedStep → Type 0)
    (begun : List NamedStep → Type 0) (r : Result ℕ Fault) (s t : Setting) : Type 0 where
  pub some : (folder : Folder) (i : List ℕ) → given i → portions_of step_list folder i ≢ []
  -- what changes files takes the names of s-files alone
  pub takes : (folder : Folder) (i : List ℕ) → AllTake (portions_of step_list folder i)
  pub steps : MakesStepList step_list given r s.stage t.stage
  pub stops : StopsStepList step_list given r s.stage t.stage
  pub unlocked : UnlockedStepList step_list given s.stage.told t.stage.told
  pub speaks : SpeaksTo whole begun r s.stage.err t.stage.err
  pub causes : RunCauses r s.faults t.faults

-- ---- over any disk: steps of a list of steps and then of one that its status decides

abbrev pub WholeThen : (ℕ → List NamedStep → Type 0) → (ℕ → ℕ → List NamedStep → Type 0) → ℕ → List NamedStep → Type 0
WholeThen whole whole2 code ts = (one : ℕ) × (first : List NamedStep) × (rest : List NamedStep) × (ts ≡ first ++ rest)
    × whole one first × whole2 one code rest

abbrev pub BegunThen : (ℕ → List NamedStep → Type 0) → (List NamedStep → Type 0) → (ℕ → List NamedStep → Type 0)
    → List NamedStep → Type 0
BegunThen whole begun begun2 ts =
    begun ts ⊎ ((one : ℕ) × (first : List NamedStep) × (rest : List NamedStep) × (ts ≡ first ++ rest) × whole one first
    × begun2 one rest)

-- ---- loops

-- over any disk: steps of several things in turn, and then those of the last list of steps
abbrev pub WholeList : {X : Type 0} → (X → ℕ → List NamedStep → Type 0) → (ℕ → List NamedStep → Type 0) → List X → ℕ
    → List NamedStep → Type 0
WholeList whole last [] = last
WholeList whole last (x ∷ xs) = WholeThen (whole x) (λ code. WholeList whole last xs)

abbrev pub BegunList : {X : Type 0} → (X → ℕ → List NamedStep → Type 0) → (X → List NamedStep → Type 0)
    → (List NamedStep → Type 0) → List X → List NamedStep → Type 0
BegunList whole begun last [] = last
BegunList whole begun last (x ∷ xs) = BegunThen (whole x) (begun x) (λ code. BegunList whole begun last xs)

-- ---- one action

-- whole steps of one action, whose statuses are this by its rule
abbrev pub WholeBy : StatusRule → (List NamedStep → Type 0) → ℕ → List NamedStep → Type 0
WholeBy rule whole status ts = whole ts × (status ≡ status_of rule ts)
