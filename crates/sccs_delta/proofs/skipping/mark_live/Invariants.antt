use Rattle.std.proofs.Common.{◌≡◌, ◌<◌, ◌&&◌, ◌||◌, ℕ, not, false, drop, length, slice_index_or}
use Rattle.std.specs.List.{list_any}
use Rattle.sccs_delta.specs.DeltaStep.{is_on_trunk}
use Rattle.sccs_delta.proofs.skipping.mark_live.Given as goal

-- as many marks as at first; and those so far, and the rest of the records, say what all records say
abbrev pub invariant-loop-record : goal.invariant-loop-record
invariant-loop-record l =
    (length l.used ≡ length l.initial.used)
    × ((n : ℕ) → n < length l.initial.used
    → (slice_index_or l.used n false || list_any (λ r. not r.removed && is_on_trunk n r.sid)
    (drop l.record-index l.records)) ≡ (slice_index_or l.initial.used n false || list_any (λ r. not r.removed
    && is_on_trunk n r.sid) l.records))
