-- Runs one after another: where one ended, and where a stop and the recovery of all names leave it, the next one may
-- begin.
use Rattle.std.specs.Prelude.{◌≡◌, ℕ, ◌≤◌, List, length, None}
use Rattle.sccs_base.specs.Name.{IsSFileName, z_file}
use Rattle.sccs_disk.specs.Files.{Folder, Model, View, view_in, view_of}
use Rattle.sccs_disk.specs.Images.{Allows}
use Rattle.sccs_disk.specs.Told.{Told, Tells}
use Rattle.sccs_crash_points.specs.CrashPoints.{NamesNone}
use Rattle.sccs_crash_points.specs.Recovery.{pair_of, recover}
use Rattle.sccs_steps.specs.ListStops.{KeepsSafe, KeepsSafeFrom, MayBegin, view_at}
use Rattle.sccs_steps.specs.StepLists.{NamedStep}
use Rattle.sccs_steps.specs.StepStops.{IsSafe}

-- A run may begin on the disk, from a folder: each s-file's name is safe in it that is safe in the folder before. And
-- so it is of the view that is told and whatever a stop could leave of a model.
pub record MayFollow (m : Model) (before after : Folder) (told : Told) : Type 0 where
  pub model : Model
  pub past : List Model
  pub is : told ≡ Tells model past
  pub may : MayBegin after model
  pub names : KeepsSafe (view_in before) (view_in after)
  pub kept : KeepsSafeFrom m (view_of model)

-- All names are recovered: each has the s-file and the p-file that recovery makes of w, none is locked, and no intent
-- names one.
pub record AllRecovered (w u : View) : Type 0 where
  pub pairs : (n : List ℕ) → IsSFileName n → pair_of u n ≡ pair_of (recover n w) n
  pub free : (n : List ℕ) → IsSFileName n → u (z_file n) ≡ None
  pub none : NamesNone u

-- The s-files and p-files are those to which a folder recovers after one number of steps.
pub record IsPrefix (folder : Folder) (ts : List NamedStep) (u : View) : Type 0 where
  pub count : ℕ
  pub most : count ≤ length ts
  pub pairs : (n : List ℕ) → IsSFileName n → pair_of u n ≡ pair_of (recover n (view_at folder ts count)) n

-- A stop was followed by the recovery of all names: they are as after a prefix of the steps, and each is safe that
-- was safe in whatever a stop could leave of a model.
pub record FollowsStop (m : Model) (folder : Folder) (ts : List NamedStep) (w : View) : Type 0 where
  pub prefix : (u : View) → AllRecovered w u → IsPrefix folder ts u
  pub safe : (u : View) → AllRecovered w u → (n : List ℕ) → IsSFileName n → Allows (IsSafe n) m → IsSafe n u
