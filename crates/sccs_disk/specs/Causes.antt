-- Why a call on a disk fails.
use Rattle.std.specs.Prelude.{ℕ, ◌≤◌}
use Rattle.sccs_base.specs.Stream.{Rose}

-- The count of a disk's faults never falls, and where the call failed it rose.
pub record DiskCauses (failed : Type 0) (old new : ℕ) : Type 0 where
  pub later : old ≤ new
  pub cause : failed → Rose old new
