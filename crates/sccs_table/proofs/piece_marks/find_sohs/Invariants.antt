use Rattle.std.proofs.Common.{◌≡◌, ◌*◌, ◌≤◌, ◌%◌, ℕ, length, take}
use Rattle.std.specs.Prelude.{sum}
use Rattle.std.specs.Int.{bit_at}
use Rattle.sccs_table.specs.Marks.{AreMarked, AreSohs}
use Rattle.sccs_table.proofs.piece_marks.find_sohs.Given as goal

-- the blocks so far are known, and none behind them is marked
abbrev pub invariant-loop-n : goal.invariant-loop-n
invariant-loop-n l = record {
  marked : AreMarked l.marked l.piece l.n;
  sohs : AreSohs l.sohs l.piece l.n;
  above : (k : ℕ) → l.n ≤ k → bit_at l.marked k ≡ 0;
  long : length l.sohs ≡ 64;
  end : l.n ≤ l.blocks;
  sum : l.total ≡ sum (take (64 * l.n) l.piece) % 65536;
}
