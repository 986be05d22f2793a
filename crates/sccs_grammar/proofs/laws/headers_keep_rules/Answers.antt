use Rattle.sccs_grammar.proofs.ParserRules.{lines_keep_rules}
use Rattle.sccs_grammar.proofs.SpelledParsers.{lines_spelled}
use Rattle.sccs_grammar.proofs.laws.headers_keep_rules.Goals as goal

pub returns-clause-rules : goal.returns-clause-rules
returns-clause-rules c = lines_keep_rules

pub returns-clause-spelled : goal.returns-clause-spelled
returns-clause-spelled c = lines_spelled
