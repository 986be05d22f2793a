use Rattle.std.proofs.Common.{◌≡◌, length}
use Rattle.sccs_history.specs.FlagText.{are_releases}
use Rattle.sccs_grammar.proofs.flag_texts.are_releases.Given as goal

-- the pieces so far are releases
abbrev pub invariant-pieces : goal.invariant-pieces
invariant-pieces l = are_releases l.text ≡ are_releases l.rest

abbrev pub decreases-pieces : goal.decreases-pieces
decreases-pieces l = length l.rest
