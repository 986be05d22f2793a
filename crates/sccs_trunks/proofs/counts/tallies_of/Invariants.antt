use Rattle.std.proofs.Common.{◌≡◌, drop, length, replicate}
use Rattle.sccs_trunks.specs.Counts.{no_lines, tally_of, with_more}
use Rattle.sccs_trunks.specs.Runs.{run_lines}
use Rattle.sccs_trunks.proofs.counts.tallies_of.Given as goal

-- the lines so far with those of the rest
abbrev pub invariant-runs : goal.invariant-runs
invariant-runs l = with_more 1 (tally_of (run_lines (drop l.at l.fn.runs))) l.tallies.items ≡ with_more 1
    (tally_of (run_lines l.fn.runs)) (replicate l.fn.serials no_lines)

abbrev pub decreases-runs : goal.decreases-runs
decreases-runs l = length (drop l.at l.fn.runs)
