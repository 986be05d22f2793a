use Rattle.std.proofs.Common.{take}
use Rattle.sccs_base.specs.NameSets.{HasNames}
use Rattle.sccs_recovery.specs.FinishStep.{names_of}
use Rattle.sccs_recovery.proofs.freed_names.entry_names.Given as goal

-- the set has the names so far
abbrev pub invariant-loop-entry : goal.invariant-loop-entry
invariant-loop-entry l = HasNames l.set (names_of (take l.entry-index l.entries))
