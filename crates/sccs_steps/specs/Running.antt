-- What a call says that makes steps.
use Rattle.std.specs.Prelude.{◌≡◌, ℕ, Bool, true, false, List, [], ◌∷◌, Option, Result, Ok}
use Rattle.std.specs.List.{filter}
use Rattle.sccs_disk.specs.Files.{Folder, Model, view_in}
use Rattle.sccs_disk.specs.Told.{Told, Tells, seen}
use Rattle.sccs_name_files.specs.StepFiles.{Shows}
use Rattle.sccs_crash_points.specs.Unlocked.{BeginsUnlockedBut}
use Rattle.sccs_steps.specs.Actions.{Action, AreClear, IsHeard, IsLone, hears, input_steps, kind_hears, kind_of}
use Rattle.sccs_steps.specs.Actions.{kind_steps, step_at, steps_at, steps_of}
use Rattle.sccs_steps.specs.Calls.{Scene, shown}
use Rattle.sccs_steps.specs.Causes.{Ignores, RunCauses}
use Rattle.sccs_steps.specs.ListStops.{AreSafe, MayBegin, RunCrashPoints, Spares}
use Rattle.sccs_steps.specs.Recovering.{RecoversBy}
use Rattle.sccs_steps.specs.Settings.{Setting}
use Rattle.sccs_steps.specs.Speaking.{SpeakAll, SpeakNames, SpeaksKind, SpeaksOne}
use Rattle.sccs_steps.specs.StepLists.{NamedStep, Runs}
use Rattle.sccs_steps.specs.Unlocked.{AreExempt, ArePlain}
use Rattle.sccs_steps.specs.declared.faults.Fault.{Fault}
use Rattle.sccs_steps.specs.declared.faults.Fault.TheVariants as end
use Rattle.sccs_steps.specs.declared.operands.OperandKind.{OperandKind}
use Rattle.sccs_steps.specs.declared.operands.OperandKind.TheVariants.{FromInput}

-- the steps that are made in a folder, with an input
abbrev pub Steps : Type 0
Steps = Folder → List ℕ → List NamedStep

-- where the disk tells a folder and the input is given the steps are made, or the call ends early
abbrev pub MakesBy : Action → Steps → (List ℕ → Type 0) → Result ℕ Fault → Scene → Scene → Type 0
MakesBy x steps given r a b = (w : List ℕ → Bool) (folder : Folder) (i : List ℕ)
    → Spares w → AreClear x w (steps folder i) → Shows w (seen a.told) (view_in folder) → given i
    → Runs x.rule w r folder (steps folder i) (shown a) (shown b)

-- what a stop leaves of the steps, where they begin on a calm disk and their names are safe
abbrev pub StopsBy : Action → Steps → (List ℕ → Type 0) → Result ℕ Fault → Scene → Scene → Type 0
StopsBy x steps given r a b = (w : List ℕ → Bool) (folder : Folder) (i : List ℕ) (m : Model) (past : List Model)
    → Spares w → AreClear x w (steps folder i) → Shows w (seen a.told) (view_in folder) → given i
    → a.told ≡ Tells m past → MayBegin folder m → AreSafe x (steps folder i) (view_in folder)
    → RunCrashPoints x w r folder (steps folder i) a b m past

-- before each change of an s-file or p-file its z-file wasn't there at a moment of the call, but of the names of steps
-- that don't lock them
abbrev pub UnlockedBy : Action → Steps → (List ℕ → Type 0) → Told → Told → Type 0
UnlockedBy x steps given old new = (w : List ℕ → Bool) (folder : Folder) (i : List ℕ)
    → Spares w → AreClear x w (steps folder i) → Shows w (seen old) (view_in folder) → given i
    → (exempt : List ℕ → Bool) → ArePlain x (steps folder i) → AreExempt x exempt (steps folder i)
    → BeginsUnlockedBut exempt old new

-- The steps are made, where the disk tells its files; what a stop leaves of them; that names are changed that weren't
-- locked; what those leave that lock no name, on a disk that isn't calm too; what the call answers and writes on err,
-- over any disk; and what an action that only reads, that is silent, or that takes no input leaves as it was.
pub record RunsSteps (x : Action) (made : Steps) (given : List ℕ → Type 0) (says : Result ℕ Fault → Option (List ℕ)
    → Option (List ℕ) → Type 0) (hearing : Bool) (r : Result ℕ Fault) (s t : Setting) : Type 0 where
  pub steps : MakesBy x made given r s.stage t.stage
  pub stops : StopsBy x made given r s.stage t.stage
  pub unlocked : UnlockedBy x made given s.stage.told t.stage.told
  pub recovers : RecoversBy x made given r s.stage.told t.stage.told
  pub speaks : says r s.stage.err t.stage.err
  pub reads : x.reads ≡ true → t.stage.told ≡ s.stage.told
  pub silent : x.silent ≡ true → t.stage.out ≡ s.stage.out
  pub ignores : hearing ≡ false → Ignores end.ReadFault s.left t.left s.faults.input t.faults.input r
  pub causes : RunCauses r s.faults t.faults

-- the step of one name
abbrev pub RunsName : Action → List ℕ → Result ℕ Fault → Setting → Setting → Type 0
RunsName x name r s = RunsSteps x (λ folder i. step_at x folder i name ∷ []) (IsHeard x.takes s.left)
    (SpeaksOne x name) x.takes r s

-- the steps of names
abbrev pub RunsNames : Action → List (List ℕ) → Result ℕ Fault → Setting → Setting → Type 0
RunsNames x names r s = RunsSteps x (λ folder i. steps_of x i folder names) (IsHeard x.takes s.left)
    (SpeakNames x names) x.takes r s

-- the input is this, where it is taken, and only a lone operand takes it
abbrev pub IsInput : Action → List (List ℕ) → Option (List ℕ) → List ℕ → Type 0
IsInput x operands left i = IsHeard (hears x operands) left i × IsLone x operands

-- the steps of an operand of a kind, and of an operand
abbrev pub RunsKind : Action → OperandKind → List ℕ → Result ℕ Fault → Setting → Setting → Type 0
RunsKind x kind operand r s =
    RunsSteps x (λ folder i. kind_steps x i folder operand kind) (IsHeard (kind_hears x.takes kind) s.left)
    (SpeaksKind x kind operand) (kind_hears x.takes kind) r s

abbrev pub RunsOperand : Action → List ℕ → Result ℕ Fault → Setting → Setting → Type 0
RunsOperand x operand = RunsKind x (kind_of x.takes operand) operand

-- the steps of the files that lines of an input name
abbrev pub RunsLines : Action → List (List ℕ) → Result ℕ Fault → Setting → Setting → Type 0
RunsLines x lines r s =
    RunsSteps x (λ folder i. input_steps x i folder (Ok (filter x.fits lines))) (IsHeard x.takes s.left)
    (SpeaksKind x FromInput []) x.takes r s

-- the steps of operands
abbrev pub RunsOperands : Action → List (List ℕ) → Result ℕ Fault → Setting → Setting → Type 0
RunsOperands x operands r s = RunsSteps x (λ folder i. steps_at x folder i operands) (IsInput x operands s.left)
    (SpeakAll x operands) (hears x operands) r s
