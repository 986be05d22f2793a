use Rattle.std.proofs.Common.{◌≡◌, length}
use Rattle.std.specs.List.{list_all}
use Rattle.sccs_sid.specs.Words.{words}
use Rattle.sccs_history.specs.FlagText.{is_release}
use Rattle.sccs_grammar.proofs.flag_texts.all_releases.Given as goal

-- the words so far are releases
abbrev pub invariant-words : goal.invariant-words
invariant-words l = list_all is_release (words l.bytes) ≡ list_all is_release (words l.rest)

abbrev pub decreases-words : goal.decreases-words
decreases-words l = length (words l.rest)
