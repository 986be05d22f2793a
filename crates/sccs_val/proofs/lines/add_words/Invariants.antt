use Rattle.std.proofs.Common.{◌≡◌, ◌++◌, length}
use Rattle.sccs_sid.specs.Words.{words}
use Rattle.sccs_val.proofs.lines.add_words.Given as goal

abbrev pub invariant-words : goal.invariant-words
invariant-words l = l.all ++ words l.rest ≡ l.fn.all ++ words l.line

abbrev pub decreases-words : goal.decreases-words
decreases-words l = length (words l.rest)
