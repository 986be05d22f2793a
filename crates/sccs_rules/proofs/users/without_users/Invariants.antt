use Rattle.std.proofs.Common.{◌≡◌, ◌++◌, drop}
use Rattle.sccs_base.specs.NameSets.{names_in}
use Rattle.sccs_rules.specs.Users.{without_users}
use Rattle.sccs_rules.proofs.users.without_users.Given as goal

-- what was kept, and what is kept of the rest
abbrev pub invariant-loop-user : goal.invariant-loop-user
invariant-loop-user l = l.kept ++ without_users (names_in l.names) (drop l.user-index l.fn.users) ≡ without_users
    (names_in l.names) l.fn.users
