use Rattle.std.proofs.Common.{◌≡◌, ◌*◌, ◌≤◌, ◌%◌, ℕ, length, take}
use Rattle.std.specs.Prelude.{sum}
use Rattle.std.specs.Int.{bit_at}
use Rattle.sccs_table.specs.Runs.{lf_count}
use Rattle.sccs_table.specs.Marks.{AreMarked, AreSohs, Describes}
use Rattle.sccs_table.proofs.piece_marks.describe.Given as goal

-- the blocks so far are described
abbrev pub invariant-loop-n : goal.invariant-loop-n
invariant-loop-n l = record {
  blocks : Describes l.ends l.before l.piece l.n;
  marked : AreMarked l.marked l.piece l.n;
  found : AreSohs l.sohs l.piece l.n;
  count : l.count ≡ lf_count (take (64 * l.n) l.piece);
  above : (k : ℕ) → l.n ≤ k → bit_at l.marked k ≡ 0;
  ends : length l.ends ≡ 65;
  before : length l.before ≡ 65;
  sohs : length l.sohs ≡ 64;
  end : l.n ≤ l.blocks;
  sum : l.total ≡ sum (take (64 * l.n) l.piece) % 65536;
}
