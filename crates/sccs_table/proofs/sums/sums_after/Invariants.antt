use Rattle.std.proofs.Common.{◌≡◌, ◌+◌, ◌%◌, take}
use Rattle.std.specs.Prelude.{sum, sum_by}
use Rattle.sccs_tokens.specs.Sums.{signed_weight}
use Rattle.sccs_table.proofs.sums.sums_after.Given as goal

-- the sums of the bytes so far
abbrev pub invariant-loop-byte : goal.invariant-loop-byte
invariant-loop-byte l = record {
  plain : l.plain ≡ (l.fn.plain + sum (take l.byte-index l.bytes)) % 65536;
  signed : l.signed ≡ (l.fn.signed + sum_by signed_weight (take l.byte-index l.bytes)) % 65536;
}
