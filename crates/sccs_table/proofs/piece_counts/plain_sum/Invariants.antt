use Rattle.std.proofs.Common.{◌≡◌, ◌≤◌, ◌<◌, ◌*◌, ◌%◌, ℕ, get_or, take}
use Rattle.std.specs.Prelude.{sum}
use Rattle.sccs_table.specs.Marks.{byte_block}
use Rattle.sccs_table.proofs.piece_counts.plain_sum.Given as goal

-- the blocks so far are added up, and no byte of them is below its lane
abbrev pub invariant-loop-n : goal.invariant-loop-n
invariant-loop-n l = record {
  end : l.n ≤ 64;
  sum : l.total ≡ sum (take (64 * l.n) l.piece) % 65536;
  below : (m k : ℕ) → m < l.n → k < 64 → get_or l.least k 0 ≤ get_or (byte_block m l.piece) k 0;
}
