use Rattle.sccs_disk.specs.Files.{view_of}
use Rattle.sccs_crash_points.proofs.Untouched.{calm_stayed, stays_left}
use Rattle.sccs_crash_points.proofs.laws.calls_before_a_commit_lose_nothing.Goals as goal

pub returns : goal.returns
returns c = λ n m past new sfile calm sound run. (
  stays_left n m past new sfile calm sound run,
  calm_stayed
      (view_of m) m past new (stays_left n m past new sfile calm sound run),
)
