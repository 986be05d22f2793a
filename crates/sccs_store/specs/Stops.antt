-- What a commit needs, so that a stop in it loses nothing, and what a stop in it leaves.
use Rattle.std.specs.Prelude.{◌≡◌, ◌⊎◌, ℕ, false, true, List, drop, None, is_some}
use Rattle.sccs_base.specs.Name.{p_file, q_file, x_file, z_file}
use Rattle.sccs_disk.specs.Calls.{Done, Half}
use Rattle.sccs_disk.specs.Effects.{removing, renaming, syncing_names}
use Rattle.sccs_disk.specs.Files.{Model, View, view_of}
use Rattle.sccs_disk.specs.Images.{IsFirm}
use Rattle.sccs_disk.specs.Told.{Told, Tells}
use Rattle.sccs_name_files.specs.StepFiles.{is_early}
use Rattle.sccs_name_files.specs.Touches.{Leaves, newest}
use Rattle.sccs_pfile.specs.Recovered.{recovered_pfile}
use Rattle.sccs_crash_points.specs.Calm.{HasFirm, IsCalm}
use Rattle.sccs_crash_points.specs.CrashPoints.{EndsBefore, IsNew, Went}
use Rattle.sccs_crash_points.specs.Recovery.{fate_at, is_kept}
use Rattle.sccs_crash_points.specs.Unlocked.{KeepsOthers}
use Rattle.sccs_store.specs.Commits.{Plan, committed, files_after}
use Rattle.sccs_store.specs.declared.new_files.NewFile.{NewFile}
use Rattle.sccs_store.specs.declared.new_files.NewFile.TheVariants.{Keep, Replace, Remove}

-- ---- the calls of a commit

-- a file takes the place of another, or that one is removed, or nothing changes
abbrev pub Swaps : NewFile → List ℕ → List ℕ → Told → Told → Type 0
Swaps Keep from to old new = new ≡ old
Swaps Replace from to old new = Done (renaming from to) old new
Swaps Remove from to old new = Done (removing to) old new

-- the call failed
abbrev pub HalfSwaps : NewFile → List ℕ → List ℕ → Told → Told → Type 0
HalfSwaps Keep from to old new = new ≡ old
HalfSwaps Replace from to old new = Half (renaming from to) old new
HalfSwaps Remove from to old new = Half (removing to) old new

-- a file is removed, and then the names are synced
abbrev pub Unlocks : List ℕ → Told → Told → Type 0
Unlocks n old new = (mid : Told) × Done (removing n) old mid × Done syncing_names mid new

abbrev pub HalfUnlocks : List ℕ → Told → Told → Type 0
HalfUnlocks n old new = Half (removing n) old new ⊎ ((mid : Told) × Done (removing n) old mid
    × Half syncing_names mid new)

-- ---- what a commit needs

abbrev pub OnReplace : NewFile → Type 0 → Type 0
OnReplace Keep P = Unit {0}
OnReplace Replace P = P
OnReplace Remove P = Unit {0}

abbrev pub OnChange : NewFile → Type 0 → Type 0
OnChange Keep P = Unit {0}
OnChange Replace P = P
OnChange Remove P = P

-- What recovery makes of the entries of a commit's name, in the view before it.
pub record KeepsEntries (n : List ℕ) (c : Plan) (v : View) : Type 0 where
  -- with a new s-file it makes the new p-file of the old one
  pub leaves : OnChange c.s (recovered_pfile (files_after n c v).s (v (p_file n)) ≡ (files_after n c v).p)
  -- and it leaves the new p-file as it is
  pub sound : recovered_pfile (files_after n c v).s (files_after n c v).p ≡ (files_after n c v).p

-- the g-file's name, where it changes, is none at which recovery of a name looks
abbrev pub IsPlainPlan : List ℕ → Plan → Type 0
IsPlainPlan n c = OnChange c.g (is_kept (drop 2 n) ≡ false)

-- What a commit needs of the files of a disk that tells its model.
pub record CanCommit (n : List ℕ) (c : Plan) (m : Model) : Type 0 where
  -- s-files and p-files are firm, and the prepared files that take their places
  pub firm : HasFirm m
  pub x_state : OnReplace c.s (IsFirm (x_file n) m)
  pub q_state : OnReplace c.p (IsFirm (q_file n) m)
  pub plain : IsPlainPlan n c
  pub entries : KeepsEntries n c (view_of m)
  -- no intent names the name
  pub unnamed : fate_at (view_of m) n ≡ None

-- What the calls from the start of a step up to its commit have done.
pub record HasPrepared (n : List ℕ) (c : Plan) (old new : Told) : Type 0 where
  -- at most working files, the z-file and the l-file are changed
  pub others : KeepsOthers (is_early n) old new
  -- the prepared files that take the places of others are firm
  pub x_state : OnReplace c.s (Leaves (IsFirm (x_file n)) old new)
  pub q_state : OnReplace c.p (Leaves (IsFirm (q_file n)) old new)
  pub entries : Leaves (λ m. KeepsEntries n c (view_of m)) old new

-- ---- what a stop leaves

-- Each image of each moment is one from before the commit, or recovers as the view after it; s-files and p-files are
-- firm.
abbrev pub CommitStops : List ℕ → Plan → Told → Told → Type 0
CommitStops n c old new = (m : Model) (past : List Model) → old ≡ Tells m past → CanCommit n c m
    → (went : Went (IsNew m (committed n c (view_of m))) m past 0 new) × HasFirm (newest went.added m)

-- At the end each image recovers as the view after it, and the disk is calm.
abbrev pub CommitEnds : List ℕ → Plan → Told → Told → Type 0
CommitEnds n c old new = (m : Model) (past : List Model) → old ≡ Tells m past → CanCommit n c m
    → (went : Went (IsNew m (committed n c (view_of m))) m past 1 new) × IsCalm (newest went.added m)

-- On a name that was locked already each image of each moment has the old s-files and p-files, and the disk is calm.
abbrev pub KeepsHeld : List ℕ → Told → Told → Type 0
KeepsHeld n old new = (m : Model) (past : List Model) → old ≡ Tells m past → IsCalm m → is_some (view_of m (z_file n))
    ≡ true → EndsBefore (view_of m) m past new
