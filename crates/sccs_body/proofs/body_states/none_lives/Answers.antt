use Rattle.std.proofs.Common.{◌≡◌, ℕ, zero, suc, false, get_or, replicate, refl}
use Rattle.sccs_body.proofs.body_states.none_lives.Goals as goal

-- among copies of false, and behind them, stands false
all_false : (count n : ℕ) → get_or (replicate count false) n false ≡ false
all_false zero zero = refl
all_false zero (suc n) = refl
all_false (suc count) zero = refl
all_false (suc count) (suc n) = all_false count n

pub returns-clause-clear : goal.returns-clause-clear
returns-clause-clear c = λ n. rw (c.in_ok-lives.ensures.items_if_clones_equal (λ y e. e)) (all_false c.args.count n)
