use Rattle.std.proofs.Common.{◌≡◌, length}
use Rattle.sccs_sid.specs.Words.{words}
use Rattle.sccs_flags.specs.FlagValues.{has_release}
use Rattle.sccs_flags.proofs.flag_values.has_release.Given as goal

-- none of the words so far is the release
abbrev pub invariant-words : goal.invariant-words
invariant-words l = has_release (words l.piece) l.fn.release ≡ has_release (words l.rest) l.fn.release

abbrev pub decreases-words : goal.decreases-words
decreases-words l = length (words l.rest)
