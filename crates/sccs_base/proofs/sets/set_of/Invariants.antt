use Rattle.std.proofs.Common.{take}
use Rattle.sccs_base.specs.NameSets.{HasNames}
use Rattle.sccs_base.proofs.sets.set_of.Given as goal

-- the set has the names so far
abbrev pub invariant-loop-name : goal.invariant-loop-name
invariant-loop-name l = HasNames l.set (take l.name-index l.names)
