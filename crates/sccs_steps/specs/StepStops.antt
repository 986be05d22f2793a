-- Where the call of a step ends that began on a calm disk, and what a stop leaves of it.
use Rattle.std.specs.Prelude.{◌≡◌, ◌⊎◌, ℕ, false, List, drop, map, Option, None, Result, Ok, Err}
use Rattle.std.proofs.Common.{inl, inr}
use Rattle.sccs_base.specs.Name.{p_file, z_file}
use Rattle.sccs_sid.specs.declared.refusals.StepFault.{StepFault}
use Rattle.sccs_sid.specs.declared.refusals.StepFault.TheVariants.{Refused, Memory, ReadFault, WriteFault, DiskFault}
use Rattle.sccs_disk.specs.Files.{Content, Model, View, view_of}
use Rattle.sccs_disk.specs.Images.{Allows}
use Rattle.sccs_disk.specs.Told.{Told, Tells}
use Rattle.sccs_name_files.specs.StepFiles.{look, moved}
use Rattle.sccs_name_files.specs.Touches.{Each}
use Rattle.sccs_crash_points.specs.Calm.{IsCalm}
use Rattle.sccs_crash_points.specs.CrashPoints.{EndsAfter, EndsBefore, EndsWithin}
use Rattle.sccs_crash_points.specs.Recovery.{IsSettledPair, IsSound, RecoversAs, is_kept, pair_of, recover}
use Rattle.sccs_steps.specs.StepEffects.{Outcome, effect_of}
use Rattle.sccs_steps.specs.Actions.{Action, IsHeard}
use Rattle.sccs_steps.specs.Calls.{Meets, Scene, World, shown}

-- there is no p-file without an s-file
abbrev pub ArePaired : Option Content → Option Content → Type 0
ArePaired s p = s ≡ None → p ≡ None

abbrev pub IsPaired : List ℕ → View → Type 0
IsPaired n v = ArePaired (v n) (v (p_file n))

-- What the theorem on stops asks of a name: its g-file's name is none at which recovery looks; unless a step was
-- stopped on it, no entry of its p-file has its delta in the s-file, and no intent names it; and recovery leaves no
-- p-file without an s-file, and a pair that another recovery would leave as it is.
pub record IsSafe (n : List ℕ) (v : View) : Type 0 where
  pub plain : is_kept (drop 2 n) ≡ false
  pub sound : v (z_file n) ≡ None → IsSound n v
  pub paired : IsPaired n (recover n v)
  pub settled : IsSettledPair (pair_of (recover n v) n)

-- nothing is asked where a step only reads
abbrev pub IsSafeFor : Action → List ℕ → View → Type 0
IsSafeFor x n v = x.reads ≡ false → IsSafe n v

-- where the call of a step ends
pub data Place : Type 0 where
  Before : Place
  Within : Place
  After : Place

-- at Ok and at a refusal after it; at a disk fault within it; else before it, but for a write fault that cut its report
abbrev pub place_as : {X : Type 0} → (code : X → ℕ) → (r : Result X StepFault) → (n : List ℕ) → (o : Outcome)
    → (a b : World) → Meets code r n o a b → Place
place_as code (Ok x) n o a b met = After
place_as code (Err (Refused refusal)) n o a b met = After
place_as code (Err Memory) n o a b met = Before
place_as code (Err ReadFault) n o a b met = Before
place_as code (Err WriteFault) n o a b (inl kept) = Before
place_as code (Err WriteFault) n o a b (inr cut) = After
place_as code (Err DiskFault) n o a b met = Within

abbrev pub meeting_place : (r : Result (Unit {0}) StepFault) → (n : List ℕ) → (o : Outcome) → (a b : World)
    → Meets (λ (done : Unit {0}). 0) r n o a b → Place
meeting_place r n o a b met = place_as (λ (done : Unit {0}). 0) r n o a b met

-- From v, and to w where it is made; after it the name is safe again. Within it the name is safe in w, or all that a
-- stop leaves recovers as v.
abbrev pub Ends : Place → Action → List ℕ → View → View → Model → List Model → Told → Type 0
Ends Before x n v w m past new = EndsBefore v m past new
Ends Within x n v w m past new = (ends : EndsWithin v w m past new)
    × (IsSafeFor x n w ⊎ Each (Allows (RecoversAs v)) ends.0.added m)
Ends After x n v w m past new = EndsAfter v w m past new × IsSafeFor x n w

-- what the call of a step answers and leaves, and where it ends; v is the view before it, of a model that is told
abbrev pub MeetsAtAs : {X : Type 0} → (X → ℕ) → Action → Result X StepFault → List ℕ → Outcome → View → Model
    → List Model → Scene → Scene → Type 0
MeetsAtAs code x r n o v m past a b =
    (met : Meets code r n o (shown a) (shown b)) × Ends (place_as code r n o (shown a) (shown b) met) x n v
    (moved v n (effect_of n o).new) m past b.told

abbrev pub MeetsAt : Action → Result (Unit {0}) StepFault → List ℕ → Outcome → View → Model → List Model → Scene → Scene
    → Type 0
MeetsAt x r n o v m past a b = MeetsAtAs (λ (done : Unit {0}). 0) x r n o v m past a b

-- the crash points of a step that begins on a calm disk, where its name is safe
abbrev pub StepCrashPointsAs : {X : Type 0} → (X → ℕ) → Action → Result X StepFault → List ℕ → Option (List ℕ) → Scene
    → Scene → Type 0
StepCrashPointsAs code x r n left a b = (m : Model) (past : List Model) (i : List ℕ) → a.told ≡ Tells m past
    → IsHeard x.takes left i → IsCalm m → IsSafeFor x n (view_of m)
    → MeetsAtAs code x r n (x.step n i (map (view_of m) (x.named n)) (look (view_of m) n)) (view_of m) m past a b

abbrev pub StepCrashPoints : Action → Result (Unit {0}) StepFault → List ℕ → Option (List ℕ) → Scene → Scene → Type 0
StepCrashPoints x r n left a b = StepCrashPointsAs (λ (done : Unit {0}). 0) x r n left a b
