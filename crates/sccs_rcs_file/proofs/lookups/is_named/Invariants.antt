use Rattle.std.proofs.Common.{◌≡◌, length}
use Rattle.sccs_rcs_file.specs.Lookups.{named}
use Rattle.sccs_rcs_file.proofs.lookups.is_named.Given as goal

-- no item of that name came so far
abbrev pub invariant-items : goal.invariant-items
invariant-items g l = named g.T.Named.name_of l.fn.name l.rest ≡ named g.T.Named.name_of l.fn.name l.fn.items

abbrev pub decreases-items : goal.decreases-items
decreases-items g l = length l.rest
