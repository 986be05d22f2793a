use Rattle.std.proofs.Common.{take}
use Rattle.sccs_pfile.specs.LiveSets.{HasLive}
use Rattle.sccs_pfile.proofs.live_sets.find_live.Given as goal

-- the SIDs of the live ones of the records so far were found
abbrev pub invariant-loop-record : goal.invariant-loop-record
invariant-loop-record l = HasLive l.found (take l.record-index l.records)
