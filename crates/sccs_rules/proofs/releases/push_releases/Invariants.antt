use Rattle.std.proofs.Common.{◌≡◌, ◌++◌, length}
use Rattle.sccs_sid.specs.Words.{words}
use Rattle.sccs_rules.specs.Unlocked.{releases_in}
use Rattle.sccs_rules.proofs.releases.push_releases.Given as goal

-- what was put, and what is to be put of the rest
abbrev pub invariant-words : goal.invariant-words
invariant-words l = l.releases.items ++ releases_in l.rest ≡ l.fn.releases.items ++ releases_in l.piece

abbrev pub decreases-words : goal.decreases-words
decreases-words l = length (words l.rest)
