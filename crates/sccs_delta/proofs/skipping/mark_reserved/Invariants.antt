use Rattle.std.proofs.Common.{◌≡◌, ◌<◌, ◌||◌, ℕ, false, drop, length, slice_index_or}
use Rattle.std.specs.List.{list_any}
use Rattle.sccs_delta.specs.DeltaStep.{is_on_trunk}
use Rattle.sccs_delta.proofs.skipping.mark_reserved.Given as goal

-- as many marks as at first; and those so far, and the rest of the SIDs, say what all SIDs say
abbrev pub invariant-loop-sid : goal.invariant-loop-sid
invariant-loop-sid l =
    (length l.used ≡ length l.initial.used)
    × ((n : ℕ) → n < length l.initial.used → (slice_index_or l.used n false || list_any (is_on_trunk n)
    (drop l.sid-index l.reserved)) ≡ (slice_index_or l.initial.used n false || list_any (is_on_trunk n) l.reserved))
