-- What a stop leaves of the parts of a change.
use Rattle.std.specs.Prelude.{ℕ, List, IfSome, Result, Ok, Err}
use Rattle.sccs_base.specs.Name.{q_file, x_file}
use Rattle.sccs_sid.specs.declared.refusals.StepFault.{StepFault}
use Rattle.sccs_sid.specs.declared.refusals.StepFault.TheVariants.{WriteFault, DiskFault}
use Rattle.sccs_disk.specs.Images.{IsFirm}
use Rattle.sccs_disk.specs.Told.{Told, seen}
use Rattle.sccs_name_files.specs.Touches.{Leaves}
use Rattle.sccs_crash_points.specs.Recovery.{IsSound}
use Rattle.sccs_steps.specs.StepStops.{ArePaired, IsPaired}
use Rattle.sccs_store.specs.Commits.{files_after}
use Rattle.sccs_store.specs.Stops.{CommitEnds, CommitStops, KeepsEntries, OnReplace}
use Rattle.sccs_changes.specs.Changes.{plan_of}
use Rattle.sccs_changes.specs.declared.prepared.Prepared.{Prepared}

-- ---- what is prepared

-- the prepared files that take the places of others are firm
pub record IsFirmPrepared (n : List ℕ) (p : Prepared) (old new : Told) : Type 0 where
  pub x_state : OnReplace (plan_of p).s (Leaves (IsFirm (x_file n)) old new)
  pub q_state : OnReplace (plan_of p).p (Leaves (IsFirm (q_file n)) old new)

-- where there is no p-file without an s-file, and no entry of it has its delta in the s-file, recovery makes the new
-- p-file of the old one, and keeps the new one; and there is no new one without a new s-file
abbrev pub SettlesEntries : List ℕ → Prepared → Told → Type 0
SettlesEntries n p told = IfSome (seen told) (λ v. IsPaired n v → IsSound n v → KeepsEntries n (plan_of p) v
    × ArePaired (files_after n (plan_of p) v).s (files_after n (plan_of p) v).p)

-- ---- the commit

-- it was made, and reported or cut in its report; or it was stopped
abbrev pub Commits : Result (Unit {0}) StepFault → List ℕ → Prepared → Told → Told → Type 0
Commits (Ok done) n p old new = CommitEnds n (plan_of p) old new
Commits (Err WriteFault) n p old new = CommitEnds n (plan_of p) old new
Commits (Err DiskFault) n p old new = CommitStops n (plan_of p) old new
Commits (Err fault) n p old new = Unit {0}
