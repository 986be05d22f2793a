use Rattle.std.proofs.Common.{◌≡◌, ◌+◌, length}
use Rattle.sccs_rcs_file.specs.TextFaults.{fault_from}
use Rattle.sccs_rcs_file.proofs.texts.check_scripts.Given as goal

abbrev pub invariant-scripts : goal.invariant-scripts
invariant-scripts l = (fault_from l.number l.lines l.rest ≡ fault_from 2 l.fn.lines l.fn.revisions)
    × (l.number + length l.rest ≡ 2 + length l.fn.revisions)

abbrev pub decreases-scripts : goal.decreases-scripts
decreases-scripts l = length l.rest
