-- What was counted of the first blocks of a piece, of 64 bytes each.
use Rattle.std.specs.Prelude.{◌≡◌, ℕ, ◌*◌, ◌%◌, ◌≤◌, List, take, sum}
use Rattle.std.specs.Simd.Lanes.{Each1, sum_l}
use Rattle.sccs_table.specs.Runs.{lf_count}
use Rattle.sccs_table.specs.declared.piece_counts.BlockCount.{BlockCount}

-- The LFs and the sum of the first n blocks. Each has at most one LF at each of its 64 places.
pub record CountedTo (c : BlockCount) (piece : List ℕ) (n : ℕ) : Type 0 where
  pub small : Each1 (λ e. e ≤ n) c.ends
  pub lines : sum_l c.ends ≡ lf_count (take (64 * n) piece)
  pub total : c.total ≡ sum (take (64 * n) piece) % 65536
