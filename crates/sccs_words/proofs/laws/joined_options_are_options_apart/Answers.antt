use Rattle.sccs_words.proofs.JoinedAnywhere.{joined_anywhere}
use Rattle.sccs_words.proofs.laws.joined_options_are_options_apart.Goals as goal

pub returns : goal.returns
returns c = joined_anywhere
