use Rattle.std.proofs.Common.{◌≡◌, ◌<◌, ◌≤◌, ◌⊎◌, ℕ, true, drop}
use Rattle.sccs_history.specs.Applied.{live_serials}
use Rattle.sccs_history.specs.Numbers.{has}
use Rattle.sccs_body.proofs.body_states.places.Given as goal

-- each live serial is below the count, or one of the rest
abbrev pub invariant-loop-record : goal.invariant-loop-record
invariant-loop-record l =
    (l.count ≤ 65536) × ((n : ℕ) → has (live_serials l.records) n ≡ true → (n < l.count)
    ⊎ (has (live_serials (drop l.record-index l.records)) n ≡ true))
