use Rattle.std.proofs.Common.{◌≡◌, length}
use Rattle.sccs_flags.specs.FlagValues.{lists_release}
use Rattle.sccs_flags.proofs.flag_values.lists_release.Given as goal

-- no piece so far has the release
abbrev pub invariant-pieces : goal.invariant-pieces
invariant-pieces l = lists_release l.text l.fn.release ≡ lists_release l.rest l.fn.release

abbrev pub decreases-pieces : goal.decreases-pieces
decreases-pieces l = length l.rest
