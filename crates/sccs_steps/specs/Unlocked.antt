-- Steps that change no s-file or p-file but one whose z-file wasn't there at an earlier moment, or that of their own
-- name.
use Rattle.std.specs.Prelude.{◌≡◌, ℕ, Bool, true, false, List, drop, IsSome}
use Rattle.std.specs.List.{AllByRecursion}
use Rattle.sccs_disk.specs.Files.{Model, view_of}
use Rattle.sccs_disk.specs.Told.{Told, Tells}
use Rattle.sccs_crash_points.specs.Recovery.{fate_at, is_kept}
use Rattle.sccs_crash_points.specs.Unlocked.{BeginsUnlocked, IsHeldIn, KeepsOthers, KeptHeld, is_own}
use Rattle.sccs_steps.specs.Actions.{Action}
use Rattle.sccs_steps.specs.StepLists.{NamedStep}

-- where files are changed, the g-file's name is that of no s-file, p-file or z-file
abbrev pub IsPlainFor : Action → List ℕ → Type 0
IsPlainFor x n = x.reads ≡ false → is_kept (drop 2 n) ≡ false

-- so it is of each name of steps that is taken
abbrev pub ArePlain : Action → List NamedStep → Type 0
ArePlain x ts = AllByRecursion (λ (t : NamedStep). x.fits t.name ≡ true → IsPlainFor x t.name) ts

-- a step that locks its name: before each change of an s-file or p-file its z-file wasn't there at a moment of the call
abbrev pub StepUnlocked : Action → List ℕ → Told → Told → Type 0
StepUnlocked x n old new = x.locks ≡ true → IsPlainFor x n → BeginsUnlocked old new

-- a name that is held stays so where an intent names it
abbrev pub KeepsNamed : List ℕ → Told → Told → Type 0
KeepsNamed n old new = (m : Model) (past : List Model) → old ≡ Tells m past → IsSome (fate_at (view_of m) n)
    → IsHeldIn n m → KeptHeld n m past new

-- a step that changes files leaves the files of all other names; and its own stays held where an intent names it
abbrev pub StepOthers : Action → List ℕ → Told → Told → Type 0
StepOthers x n old new = (x.reads ≡ false → KeepsOthers (is_own n) old new) × (x.reads ≡ false → KeepsNamed n old new)

-- the names of steps that don't lock them are exempt
abbrev pub AreExempt : Action → (List ℕ → Bool) → List NamedStep → Type 0
AreExempt x exempt ts = AllByRecursion (λ (t : NamedStep). x.fits t.name ≡ true → x.locks ≡ false
    → exempt t.name ≡ true) ts
