use Rattle.std.proofs.Common.{◌≡◌, ℕ, ◌<◌, drop, length, slice_index_or, None}
use Rattle.sccs_sets.specs.Marks.{or_else, said_by}
use Rattle.sccs_sets.proofs.marks.mark_list.Given as goal

-- as many places as at first; and the marks so far, and what the rest of the list says, are what the whole list says
abbrev pub invariant-loop-number : goal.invariant-loop-number
invariant-loop-number l =
    (length l.marks ≡ length l.initial.marks)
    × ((n : ℕ) → n < length l.initial.marks → or_else (slice_index_or l.marks n None)
    (said_by (drop l.number-index l.numbers) l.value n) ≡ or_else (slice_index_or l.initial.marks n None)
    (said_by l.numbers l.value n))
