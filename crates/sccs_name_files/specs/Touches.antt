-- Calls that touch the files of some names alone.
use Rattle.std.specs.Prelude.{◌≡◌, ℕ, Bool, false, List, [], ◌∷◌, ◌++◌, length, slice_get, Some}
use Rattle.std.specs.Str.{bytes_eq}
use Rattle.sccs_disk.specs.Files.{View, Model, names, IsSane}
use Rattle.sccs_disk.specs.Images.{Image, IsOwn, file_under}
use Rattle.sccs_disk.specs.Told.{Told, Tells}

-- The models of a call are the one at its start and those that it adds, the newest first.
abbrev pub newest : List Model → Model → Model
newest [] m = m
newest (a ∷ added) m = a

abbrev pub earlier : List Model → Model → List Model → List Model
earlier [] m past = past
earlier (a ∷ added) m past = added ++ m ∷ past

-- the first model and each one that was added have P
abbrev pub Each : (Model → Type 0) → List Model → Model → Type 0
Each P [] m = P m
Each P (a ∷ added) m = P a × Each P added m

-- A model with the same names and name operations, and the same files but for the one under n.
pub record IsBut (n : List ℕ) (m m2 : Model) : Type 0 where
  pub base : m2.base ≡ m.base
  pub pending : m2.pending ≡ m.pending
  pub count : length m2.files ≡ length m.files
  pub others : (p : ℕ) → (names m n ≡ Some p → ⊥) → slice_get m2.files p ≡ slice_get m.files p

-- the story went on from a model, and each moment is such a model
pub record Grew (n : List ℕ) (m : Model) (past : List Model) (new : Told) : Type 0 where
  pub added : List Model
  pub is : new ≡ Tells (newest added m) (earlier added m past)
  pub each : Each (IsBut n m) added m

-- From m to m2 the files of other names are as they were, now and in what a stop leaves.
pub record Touches (mine : List ℕ → Bool) (m m2 : Model) : Type 0 where
  pub images : (w : View) → Image m2 w → (u : View) × Image m u × ((k : List ℕ) → mine k ≡ false → u k ≡ w k)
  pub files : (k : List ℕ) → mine k ≡ false → file_under m2 k ≡ file_under m k
  pub own : (k : List ℕ) → IsOwn k m → IsOwn k m2

-- the story went on from a model, and each moment touches those files alone
pub record Touching (mine : List ℕ → Bool) (m : Model) (past : List Model) (new : Told) : Type 0 where
  pub added : List Model
  pub is : new ≡ Tells (newest added m) (earlier added m past)
  pub each : Each (Touches mine m) added m

-- a call that touches the files of some names alone
abbrev pub TouchesOnly : (List ℕ → Bool) → Told → Told → Type 0
TouchesOnly mine old new = (m : Model) (past : List Model) → old ≡ Tells m past → Touching mine m past new

-- a call that writes to one file alone, where no other name has led to it
abbrev pub WritesOnly : List ℕ → Told → Told → Type 0
WritesOnly n old new = (m : Model) (past : List Model) → old ≡ Tells m past → IsOwn n m
    → Touching (bytes_eq n) m past new

-- where a model was told, the one that is told now has P
abbrev pub Leaves : (Model → Type 0) → Told → Told → Type 0
Leaves P old new = (m : Model) (past : List Model) → old ≡ Tells m past → (m2 : Model) (past2 : List Model)
    → new ≡ Tells m2 past2 → P m2

-- what is told leads each name to a file of its own
abbrev pub TellsSane : Told → Type 0
TellsSane told = (m : Model) (past : List Model) → told ≡ Tells m past → IsSane m
