use Rattle.std.proofs.Common.{◌≡◌, ◌+◌, ◌≤◌, length}
use Rattle.sccs_table.specs.Runs.{lf_count}
use Rattle.sccs_table.proofs.counts.lines_in.Given as goal

-- the LFs so far and those of the rest are all
abbrev pub invariant-parts : goal.invariant-parts
invariant-parts l = record {
  all : l.count + lf_count l.rest ≡ lf_count l.bytes;
  bound : l.count + length l.rest ≤ length l.bytes;
}

abbrev pub decreases-parts : goal.decreases-parts
decreases-parts l = length l.rest
