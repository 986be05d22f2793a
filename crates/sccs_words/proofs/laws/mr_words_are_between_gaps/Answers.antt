use Rattle.sccs_words.proofs.MrWordLaws.{words_found, words_are}
use Rattle.sccs_words.proofs.laws.mr_words_are_between_gaps.Goals as goal

pub returns-clause-are : goal.returns-clause-are
returns-clause-are c = words_found

pub returns-clause-only : goal.returns-clause-only
returns-clause-only c bytes words are = words_are words bytes are
