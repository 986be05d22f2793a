use Rattle.std.proofs.Common.{◌≡◌, ◌++◌, length}
use Rattle.sccs_trunks.specs.Counts.{counts_from}
use Rattle.sccs_trunks.proofs.counts.counts_of.Given as goal

-- the counts so far and those of the rest
abbrev pub invariant-serials : goal.invariant-serials
invariant-serials l = l.counts.items ++ counts_from l.before l.rest ≡ counts_from 0 l.fn.tallies

abbrev pub decreases-serials : goal.decreases-serials
decreases-serials l = length l.rest
