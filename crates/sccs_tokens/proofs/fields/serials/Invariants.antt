use Rattle.std.proofs.Common.{◌≡◌, ◌++◌, length}
use Rattle.std.specs.Prelude.{option_map}
use Rattle.sccs_sid.specs.Words.{words}
use Rattle.sccs_tokens.specs.Tokens.{serials}
use Rattle.sccs_tokens.proofs.fields.serials.Given as goal

-- what was found, and what is found in the rest, is what all has
abbrev pub invariant-words : goal.invariant-words
invariant-words l = serials (words l.bytes) ≡ option_map (λ ns. l.found ++ ns) (serials (words l.rest))

abbrev pub decreases-words : goal.decreases-words
decreases-words l = length (words l.rest)
