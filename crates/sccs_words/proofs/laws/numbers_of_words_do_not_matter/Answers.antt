use Rattle.sccs_words.proofs.SameMeaning.{same_meaning}
use Rattle.sccs_words.proofs.laws.numbers_of_words_do_not_matter.Goals as goal

pub returns : goal.returns
returns c = same_meaning
