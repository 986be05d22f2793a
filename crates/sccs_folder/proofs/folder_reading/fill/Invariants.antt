use Rattle.std.proofs.Common.{◌≤◌, length}
use Rattle.sccs_folder.proofs.folder_reading.fill.Given as goal

abbrev pub invariant-loop : goal.invariant-loop
invariant-loop g l = l.at ≤ length l.into
