-- The y-file put in the place of the g-file or of the l-file: the calls, what they need so that a stop loses nothing,
-- and what a stop leaves.
use Rattle.std.specs.Prelude.{◌≡◌, ◌⊎◌, ℕ, false, List, Option}
use Rattle.std.specs.Str.{bytes_eq}
use Rattle.sccs_base.specs.Name.{y_file}
use Rattle.sccs_disk.specs.Calls.{Done, Half}
use Rattle.sccs_disk.specs.Effects.{renaming, syncing_names}
use Rattle.sccs_disk.specs.Files.{Content, Model, View, view_of}
use Rattle.sccs_disk.specs.Images.{Image, IsFirm}
use Rattle.sccs_disk.specs.Told.{Told, Tells}
use Rattle.sccs_name_files.specs.Touches.{Leaves, TouchesOnly, newest}
use Rattle.sccs_crash_points.specs.Calm.{IsCalm, KeepsPairs}
use Rattle.sccs_crash_points.specs.CrashPoints.{Went}
use Rattle.sccs_crash_points.specs.Recovery.{is_kept}

-- ---- the calls

-- a file takes the place of another, and then the names are synced
abbrev pub Places : List ℕ → List ℕ → Told → Told → Type 0
Places from to old new = (mid : Told) × Done (renaming from to) old mid × Done syncing_names mid new

-- the first of the two calls failed, or the second
abbrev pub HalfPlaces : List ℕ → List ℕ → Told → Told → Type 0
HalfPlaces from to old new = Half (renaming from to) old new ⊎ ((mid : Told) × Done (renaming from to) old mid
    × Half syncing_names mid new)

-- What the calls that make a y-file have done: no other file is touched, and it is firm.
pub record HasMade (n : List ℕ) (old new : Told) : Type 0 where
  pub touches : TouchesOnly (bytes_eq (y_file n)) old new
  pub firm : Leaves (IsFirm (y_file n)) old new

-- ---- what they need

-- What is so of a disk, so that a stop loses nothing.
pub record CanPlace (n to : List ℕ) (m : Model) : Type 0 where
  pub calm : IsCalm m
  pub y_state : IsFirm (y_file n) m
  -- the name of the file is none at which recovery of a name looks
  pub plain : is_kept to ≡ false

-- ---- what a stop leaves

-- the file as a stop could leave it at the start
abbrev pub HasOld : List ℕ → Model → View → Type 0
HasOld to m w = (u : View) × Image m u × (w to ≡ u to)

-- the new file or, while j is 0, the old one
abbrev pub HasNew : List ℕ → Model → Option Content → ℕ → View → Type 0
HasNew to m new j w = (w to ≡ new) ⊎ ((j ≡ 0) × HasOld to m w)

-- The old s-files and p-files, and a file that is whole.
pub record IsPlacing (to : List ℕ) (m : Model) (new : Option Content) (j : ℕ) (w : View) : Type 0 where
  pub keeps : KeepsPairs (view_of m) w
  pub state : HasNew to m new j w

-- so is each image of each moment, and the disk is calm
abbrev pub EndsPlacing : List ℕ → Option Content → ℕ → Model → List Model → Told → Type 0
EndsPlacing to new j m past t = (went : Went (IsPlacing to m new) m past j t) × IsCalm (newest went.added m)

-- wherever it stops
abbrev pub PlaceStops : List ℕ → List ℕ → Told → Told → Type 0
PlaceStops n to old new = (m : Model) (past : List Model) → old ≡ Tells m past → CanPlace n to m
    → EndsPlacing to (view_of m (y_file n)) 0 m past new

-- at its end, where each image has the new file
abbrev pub PlaceEnds : List ℕ → List ℕ → Told → Told → Type 0
PlaceEnds n to old new = (m : Model) (past : List Model) → old ≡ Tells m past → CanPlace n to m
    → EndsPlacing to (view_of m (y_file n)) 1 m past new
