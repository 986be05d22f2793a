-- The crash points of a list of steps that began on a calm disk, and which of the steps are acknowledged.
use Rattle.std.specs.Prelude.{◌≡◌, ◌≢◌, ℕ, suc, ◌+◌, ◌-◌, ◌<◌, ◌≤◌, ◌⊎◌, Bool, true, false, List, ◌++◌, length, take}
use Rattle.std.specs.Prelude.{drop, Option, None, Some, Result, Err, IsOk}
use Rattle.std.specs.List.{AllByRecursion}
use Rattle.sccs_base.specs.Name.{IsSFileName, p_file, z_file}
use Rattle.sccs_base.specs.Stream.{GivesSome}
use Rattle.sccs_disk.specs.Files.{Folder, Model, View, view_in, view_of}
use Rattle.sccs_disk.specs.Images.{Allows}
use Rattle.sccs_disk.specs.Told.{seen}
use Rattle.sccs_name_files.specs.Touches.{Each, newest}
use Rattle.sccs_crash_points.specs.Calm.{HasFirm, IsCalm}
use Rattle.sccs_crash_points.specs.CrashPoints.{Went}
use Rattle.sccs_intents.specs.Intents.{intent_file}
use Rattle.sccs_crash_points.specs.Recovery.{RecoversAs}
use Rattle.sccs_steps.specs.Actions.{Action}
use Rattle.sccs_steps.specs.Calls.{Scene, World, shown}
use Rattle.sccs_steps.specs.StepLists.{NamedStep, ShowsEarly, err_of, folder_after, next_text, out_of}
use Rattle.sccs_steps.specs.StepStops.{IsSafe, IsSafeFor}
use Rattle.sccs_steps.specs.declared.faults.Fault.{Fault}
use Rattle.sccs_steps.specs.declared.faults.Fault.TheVariants.{DiskFault}

-- ---- where a list of steps stands

-- the view after so many of the steps
abbrev pub view_at : Folder → List NamedStep → ℕ → View
view_at m ts k = view_in (folder_after m (take k ts))

-- what is written on out before the report of the step behind so many, and on err
abbrev pub out_before : List NamedStep → ℕ → List ℕ
out_before ts k = out_of (take k ts) ++ next_text (drop k ts)

abbrev pub err_before : List NamedStep → ℕ → List ℕ
err_before ts k = err_of (take k ts)

-- ---- acknowledged steps

-- how many bytes a sink was given, where it tells them
abbrev pub given_more : Option (List ℕ) → Option (List ℕ) → ℕ
given_more None after = 0
given_more (Some given) None = 0
given_more (Some given) (Some after) = length after - length given

-- The step behind k others is acknowledged: a byte of its report, or of what stands behind it, was written on out or
-- on err, or the call answered Ok.
abbrev pub IsAcknowledged : Result ℕ Fault → List NamedStep → ℕ → World → World → Type 0
IsAcknowledged r ts k a b = (length (out_before ts k) < given_more a.out b.out)
    ⊎ ((length (err_before ts k) < given_more a.err b.err) ⊎ IsOk r)

-- ---- crash points

-- a folder that recovers as the view of this number, or as the next one up to the last
abbrev pub IsAtNumber : (ℕ → View) → ℕ → ℕ → View → Type 0
IsAtNumber views last j u = (k : ℕ) × ((k ≡ j) ⊎ (k ≡ j + 1)) × (k ≤ last) × RecoversAs (views k) u

-- A call may begin on the disk: it is calm, and its view recovers as the folder does that is shown. Working files may
-- differ, and recovery looks at those of a name that an intent names.
pub record MayBegin (folder : Folder) (m : Model) : Type 0 where
  pub calm : IsCalm m
  pub recovers : RecoversAs (view_in folder) (view_of m)

-- From a calm model on: where the call ends, as a list of steps from a folder on.
pub record ListCrashPoints (w : List ℕ → Bool) (r : Result ℕ Fault) (folder : Folder) (ts : List NamedStep)
    (a b : Scene) (m : Model) (past : List Model) : Type 0 where
  -- the number of the last moment
  pub number : ℕ
  pub most : number ≤ length ts
  -- the numbers never fall, and each image of each moment recovers as the view of its number, or as the next one
  pub went : Went (IsAtNumber (view_at folder ts) (length ts)) m past number b.told
  -- no byte of the report of a later step is written
  pub out : GivesSome a.out b.out (out_before ts number)
  pub err : GivesSome a.err b.err (err_before ts number)
  -- at Ok all steps are counted
  pub all : IsOk r → number ≡ length ts
  -- but at a disk fault the disk is calm, and so many steps are committed, while of the next one at most the l-file is
  -- new
  pub calm : r ≢ Err DiskFault → IsCalm (newest went.added m)
  pub committed : r ≢ Err DiskFault → ShowsEarly w (drop number ts) (seen b.told) (view_at folder ts number)
  pub recovers : r ≢ Err DiskFault → RecoversAs (view_at folder ts number) (view_of (newest went.added m))
  -- s-files and p-files are firm, so that recovery may run next
  pub firm : HasFirm (newest went.added m)

-- ---- names

-- each name of a step that is taken is safe, where files are changed
abbrev pub AreSafe : Action → List NamedStep → View → Type 0
AreSafe x ts v = AllByRecursion (λ (t : NamedStep). x.fits t.name ≡ true → IsSafeFor x t.name v) ts

-- each name that was safe is safe again
abbrev pub StaySafe : Action → View → View → Type 0
StaySafe x u v = (n : List ℕ) → x.fits n ≡ true → IsSafeFor x n u → IsSafeFor x n v

-- the same of every s-file's name
abbrev pub KeepsSafe : View → View → Type 0
KeepsSafe u v = (n : List ℕ) → IsSFileName n → IsSafe n u → IsSafe n v

-- each s-file's name is safe in the view that is safe in whatever a stop may leave of the model
abbrev pub KeepsSafeFrom : Model → View → Type 0
KeepsSafeFrom m v = (n : List ℕ) → IsSFileName n → Allows (IsSafe n) m → IsSafe n v

-- no s-file, p-file or z-file is a working file, nor is the intent
pub record Spares (w : List ℕ → Bool) : Type 0 where
  pub s : (n : List ℕ) → IsSFileName n → w n ≡ false
  pub p : (n : List ℕ) → IsSFileName n → w (p_file n) ≡ false
  pub z : (n : List ℕ) → IsSFileName n → w (z_file n) ≡ false
  pub intent : w intent_file ≡ false

-- The crash points of steps. The last number is at least that of each step that is acknowledged, and but at a disk
-- fault the names that were safe are safe again, after so many steps.
pub record RunCrashPoints (x : Action) (w : List ℕ → Bool) (r : Result ℕ Fault) (folder : Folder) (ts : List NamedStep)
    (a b : Scene) (m : Model) (past : List Model) : Type 0 where
  pub list : ListCrashPoints w r folder ts a b m past
  pub acknowledged : (k : ℕ) → k < length ts → IsAcknowledged r ts k (shown a) (shown b) → suc k ≤ list.number
  pub safe : r ≢ Err DiskFault → StaySafe x (view_in folder) (view_at folder ts list.number)
  -- the same of every s-file's name
  pub keeps : r ≢ Err DiskFault → KeepsSafe (view_in folder) (view_at folder ts list.number)
  -- whatever a stop leaves, in it each s-file's name is safe that was safe in whatever one could leave at the start,
  -- so that the next run may begin there
  pub images : Each (Allows (KeepsSafeFrom m)) list.went.added m
