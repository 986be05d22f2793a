use Rattle.std.proofs.Common.{◌≡◌, drop, fold}
use Rattle.sccs_base.specs.NameSets.{HasNames}
use Rattle.sccs_rules.specs.Users.{with_user}
use Rattle.sccs_rules.proofs.users.add_users.Given as goal

-- the names that are left make all of what is there, and the set has those that are there
abbrev pub invariant-loop-name : goal.invariant-loop-name
invariant-loop-name l = record {
  rest : fold with_user l.users (drop l.name-index l.names) ≡ fold with_user l.fn.users l.names;
  known : HasNames l.known l.users;
}
