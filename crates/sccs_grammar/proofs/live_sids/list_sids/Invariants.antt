use Rattle.std.proofs.Common.{take}
use Rattle.sccs_grammar.specs.HeldTable.{HasSids}
use Rattle.sccs_grammar.proofs.live_sids.list_sids.Given as goal

-- the SIDs of the live ones so far are listed
abbrev pub invariant-loop-record : goal.invariant-loop-record
invariant-loop-record l = HasSids l.sids (take l.record-index l.records)
