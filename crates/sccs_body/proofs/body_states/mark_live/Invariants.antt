use Rattle.std.proofs.Common.{◌≡◌, ℕ, false, ◌||◌, slice_index_or, drop, length}
use Rattle.sccs_history.specs.Applied.{live_serials}
use Rattle.sccs_history.specs.Numbers.{has}
use Rattle.sccs_body.proofs.body_states.mark_live.Given as goal

-- the serials so far are marked, and those of the rest are still to come
abbrev pub invariant-loop-record : goal.invariant-loop-record
invariant-loop-record l = (length l.lives ≡ length l.initial.lives)
    × ((n : ℕ) → (slice_index_or l.lives n false || has (live_serials (drop l.record-index l.records)) n) ≡ has
    (live_serials l.records) n)
