use Rattle.std.proofs.Common.{◌≡◌, ◌-◌, ◌++◌, ◌<◌, ℕ, List, false, slice_index_or}
use Rattle.sccs_sid.specs.declared.sids.Sid.{Sid}
use Rattle.sccs_history.specs.declared.headers.Record.{Record}
use Rattle.sccs_delta.specs.DeltaStep.{is_used, unused_from}
use Rattle.sccs_delta.proofs.skipping.add_unused.Given as goal

-- the SIDs so far and those that are left are all
abbrev pub invariant-loop-release : goal.invariant-loop-release
invariant-loop-release l =
    (records : List Record) (reserved : List Sid) → ((n : ℕ) → n < l.to → slice_index_or l.used n false
    ≡ is_used records reserved n)
    → l.sids ++ unused_from records reserved l.release (l.to - l.release) ≡ l.fn.sids ++ unused_from records reserved
    l.from (l.to - l.from)
