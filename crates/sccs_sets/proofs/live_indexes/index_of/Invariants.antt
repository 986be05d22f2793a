use Rattle.std.proofs.Common.{take}
use Rattle.sccs_sets.specs.LiveIndexes.{HasDeltas}
use Rattle.sccs_sets.proofs.live_indexes.index_of.Given as goal

-- the live ones of the records so far are in the index
abbrev pub invariant-loop-record : goal.invariant-loop-record
invariant-loop-record l = HasDeltas l.index (take l.record-index l.records)
