use Rattle.std.proofs.Common.{◌≡◌, ◌++◌, length}
use Rattle.sccs_rules.specs.Unlocked.{releases_of}
use Rattle.sccs_rules.proofs.releases.releases_of.Given as goal

-- the releases so far, and those of the rest
abbrev pub invariant-pieces : goal.invariant-pieces
invariant-pieces l = l.releases.items ++ releases_of l.rest ≡ releases_of l.text

abbrev pub decreases-pieces : goal.decreases-pieces
decreases-pieces l = length l.rest
