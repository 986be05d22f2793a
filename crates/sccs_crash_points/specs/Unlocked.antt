-- Which s-files and p-files a call changes: those that weren't locked when it began, or at a later moment before the
-- change.
use Rattle.std.specs.Prelude.{◌≡◌, ◌⊎◌, ◌||◌, ℕ, Bool, false, List, [], ◌∷◌, drop, None, IsSome}
use Rattle.std.specs.Str.{bytes_eq}
use Rattle.sccs_base.specs.Name.{IsSFileName, p_file, z_file}
use Rattle.sccs_disk.specs.Files.{Model, View, view_of}
use Rattle.sccs_disk.specs.Images.{Allows, Image, file_under}
use Rattle.sccs_disk.specs.Told.{Told, Tells}
use Rattle.sccs_name_files.specs.StepFiles.{is_early}
use Rattle.sccs_name_files.specs.Touches.{Each, earlier, newest}
use Rattle.sccs_crash_points.specs.Recovery.{pair_of}

-- the files of an s-file's name: itself, its p-file and g-file, its l-file, and those that a step leaves behind
abbrev pub is_own : List ℕ → List ℕ → Bool
is_own n k = bytes_eq n k || (bytes_eq (p_file n) k || (bytes_eq (drop 2 n) k || is_early n k))

-- a view that has the files of other names as another has them
abbrev pub SameOthers : (List ℕ → Bool) → View → View → Type 0
SameOthers mine v w = (k : List ℕ) → mine k ≡ false → w k ≡ v k

-- From m to m2 the files of other names are as they were, now and in what a stop leaves.
pub record LeavesOthers (mine : List ℕ → Bool) (m m2 : Model) : Type 0 where
  pub files : (k : List ℕ) → mine k ≡ false → file_under m2 k ≡ file_under m k
  -- what a stop leaves has them as something has them that one could leave before
  pub images : (w : View) → Image m2 w → (u : View) × Image m u × SameOthers mine u w

-- The story went on from a model, and at each moment the files of other names are as they were.
pub record KeptOthers (mine : List ℕ → Bool) (m : Model) (past : List Model) (new : Told) : Type 0 where
  pub added : List Model
  pub is : new ≡ Tells (newest added m) (earlier added m past)
  pub each : Each (LeavesOthers mine m) added m

-- a call that changes the files of some names alone
abbrev pub KeepsOthers : (List ℕ → Bool) → Told → Told → Type 0
KeepsOthers mine old new = (m : Model) (past : List Model) → old ≡ Tells m past → KeptOthers mine m past new

-- the z-file of a name is there in whatever a stop leaves
abbrev pub IsHeldIn : List ℕ → Model → Type 0
IsHeldIn n m = Allows (λ w. IsSome (w (z_file n))) m

-- The story went on from a model, and at each moment the name is held.
pub record KeptHeld (n : List ℕ) (m : Model) (past : List Model) (new : Told) : Type 0 where
  pub added : List Model
  pub is : new ≡ Tells (newest added m) (earlier added m past)
  pub each : Each (IsHeldIn n) added m

-- a held name stays so
abbrev pub KeepsHeldIn : List ℕ → Told → Told → Type 0
KeepsHeldIn n old new = (m : Model) (past : List Model) → old ≡ Tells m past → IsHeldIn n m → KeptHeld n m past new

-- at one of these crash points the name's z-file wasn't there
abbrev pub WasUnlocked : List ℕ → List Model → Model → Type 0
WasUnlocked n [] m = view_of m (z_file n) ≡ None
WasUnlocked n (a ∷ added) m = (view_of a (z_file n) ≡ None) ⊎ WasUnlocked n added m

-- where an s-file or its p-file differs from one moment to the next, its z-file wasn't there at an earlier moment
abbrev pub ComeUnlocked : List Model → Model → Type 0
ComeUnlocked [] m = Unit {0}
ComeUnlocked (a ∷ added) m =
    ((n : List ℕ) → IsSFileName n → (pair_of (view_of a) n ≡ pair_of (view_of (newest added m)) n)
    ⊎ WasUnlocked n added m) × ComeUnlocked added m

-- The story went on from a model, and before each change of an s-file or p-file its z-file wasn't there at a moment of
-- the call.
pub record BeganUnlocked (m : Model) (past : List Model) (new : Told) : Type 0 where
  pub added : List Model
  pub is : new ≡ Tells (newest added m) (earlier added m past)
  pub changes : ComeUnlocked added m

-- so it is of a call
abbrev pub BeginsUnlocked : Told → Told → Type 0
BeginsUnlocked old new = (m : Model) (past : List Model) → old ≡ Tells m past → BeganUnlocked m past new

-- the same of all names but those that are exempt, as the names that are recovered are
abbrev pub ComeUnlockedBut : (List ℕ → Bool) → List Model → Model → Type 0
ComeUnlockedBut exempt [] m = Unit {0}
ComeUnlockedBut exempt (a ∷ added) m =
    ((n : List ℕ) → IsSFileName n → exempt n ≡ false → (pair_of (view_of a) n ≡ pair_of (view_of (newest added m)) n)
    ⊎ WasUnlocked n added m)
    × ComeUnlockedBut exempt added m

pub record BeganUnlockedBut (exempt : List ℕ → Bool) (m : Model) (past : List Model) (new : Told) : Type 0 where
  pub added : List Model
  pub is : new ≡ Tells (newest added m) (earlier added m past)
  pub changes : ComeUnlockedBut exempt added m

abbrev pub BeginsUnlockedBut : (List ℕ → Bool) → Told → Told → Type 0
BeginsUnlockedBut exempt old new = (m : Model) (past : List Model) → old ≡ Tells m past
    → BeganUnlockedBut exempt m past new
