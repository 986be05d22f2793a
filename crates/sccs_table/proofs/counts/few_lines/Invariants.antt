use Rattle.std.proofs.Common.{◌≡◌, ◌≤◌, take}
use Rattle.sccs_table.specs.Runs.{lf_count}
use Rattle.sccs_table.proofs.counts.few_lines.Given as goal

-- the LFs so far, no more than the bytes so far
abbrev pub invariant-loop-byte : goal.invariant-loop-byte
invariant-loop-byte l = record {
  count : l.count ≡ lf_count (take l.byte-index l.bytes);
  bound : l.count ≤ l.byte-index;
}
