use Rattle.sccs_sid.proofs.Separators.{NoneBefore}
use Rattle.sccs_sid.proofs.reading.cut_at.Given as goal

-- the separator has not come yet
abbrev pub invariant-loop-at : goal.invariant-loop-at
invariant-loop-at l = NoneBefore l.separator l.bytes l.at
