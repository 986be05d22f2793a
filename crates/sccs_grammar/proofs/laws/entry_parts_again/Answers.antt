use Rattle.sccs_tokens.proofs.TokenLaws.{token_counts}
use Rattle.sccs_grammar.proofs.SectionLaws.{include_again, exclude_again, ignore_again, texts_behind}
use Rattle.sccs_grammar.proofs.laws.entry_parts_again.Goals as goal

pub returns-clause-counts : goal.returns-clause-counts
returns-clause-counts c = token_counts

pub returns-clause-include : goal.returns-clause-include
returns-clause-include c = include_again

pub returns-clause-exclude : goal.returns-clause-exclude
returns-clause-exclude c = exclude_again

pub returns-clause-ignore : goal.returns-clause-ignore
returns-clause-ignore c = ignore_again

pub returns-clause-texts : goal.returns-clause-texts
returns-clause-texts c = texts_behind
