use Rattle.std.proofs.Common.{take}
use Rattle.sccs_base.specs.NameSets.{HasNames}
use Rattle.sccs_rules.proofs.users.known_users.Given as goal

-- the set has the users so far
abbrev pub invariant-loop-user : goal.invariant-loop-user
invariant-loop-user l = HasNames l.set (take l.user-index l.users)
