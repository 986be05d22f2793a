use Rattle.std.proofs.Common.{length}
use Rattle.sccs_trunks.proofs.joining.«+join_scripts».Given as goal

abbrev pub decreases-join_scripts : goal.decreases-join_scripts
decreases-join_scripts l = length l.revisions.now
