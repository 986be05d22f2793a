use Rattle.std.proofs.Common.{length, ◌≤◌}
use Rattle.std.specs.List.{AllByRecursion}
use Rattle.sccs_history.specs.History.{HasSpelling}
use Rattle.sccs_trunks.specs.TrunkHistories.{IsRevision}
use Rattle.sccs_rcs.proofs.HeaderLaws.{AreSoFar}
use Rattle.sccs_rcs.proofs.headers.records_of.Given as goal

-- the records so far and those of the revisions that are left are all
abbrev pub invariant-revisions : goal.invariant-revisions
invariant-revisions l =
    AreSoFar l.fn.revisions l.fn.counts l.records l.rest × AllByRecursion HasSpelling l.records
    × AllByRecursion IsRevision l.rest × (length l.rest ≤ length l.fn.revisions)

abbrev pub decreases-revisions : goal.decreases-revisions
decreases-revisions l = length l.rest
