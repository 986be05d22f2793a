use Rattle.std.proofs.Common.{◌≡◌, length}
use Rattle.sccs_rules.specs.Forms.{are_joined}
use Rattle.sccs_rules.proofs.forms.are_joined.Given as goal

-- each piece so far is a release
abbrev pub invariant-pieces : goal.invariant-pieces
invariant-pieces l = are_joined l.bytes ≡ are_joined l.rest

abbrev pub decreases-pieces : goal.decreases-pieces
decreases-pieces l = length l.rest
