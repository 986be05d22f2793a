use Rattle.std.proofs.Common.{◌≡◌, ℕ, zero, suc, replicate, get_or, refl}
use Rattle.sccs_body.specs.declared.marks.Mark.TheVariants.{Closed}
use Rattle.sccs_body.proofs.marks.Marks.new.Goals as goal

-- among closed marks, and behind them, stands a closed one
all_closed : (count n : ℕ) → get_or (replicate count Closed) n Closed ≡ Closed
all_closed zero n = refl
all_closed (suc count) zero = refl
all_closed (suc count) (suc n) = all_closed count n

pub returns : goal.returns
returns c = λ n. rw c.in_ok-marks.ensures (all_closed c.args.count n)
