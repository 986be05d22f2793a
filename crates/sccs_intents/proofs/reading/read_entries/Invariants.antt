use Rattle.std.proofs.Common.{◌≡◌, ◌+◌, ◌≤◌, [], length}
use Rattle.sccs_intents.specs.Intents.{entries_at}
use Rattle.sccs_intents.proofs.reading.read_entries.Given as goal

-- the entries so far and the lines of the rest make all
abbrev pub invariant-lines : goal.invariant-lines
invariant-lines l = record {
  same : entries_at l.number l.entries l.rest ≡ entries_at 2 [] l.fn.bytes;
  short : l.number + length l.rest ≤ 2 + length l.fn.bytes;
}

abbrev pub decreases-lines : goal.decreases-lines
decreases-lines l = length l.rest
