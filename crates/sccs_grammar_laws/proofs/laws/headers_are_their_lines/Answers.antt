use Rattle.sccs_grammar.proofs.ParserRules.{lines_keep_rules}
use Rattle.sccs_grammar_laws.proofs.HeaderMade.{header_begins}
use Rattle.sccs_grammar_laws.proofs.HeaderShape.{header_shape}
use Rattle.sccs_grammar_laws.proofs.laws.headers_are_their_lines.Goals as goal

pub returns-clause-read : goal.returns-clause-read
returns-clause-read c = λ n lines p is. (header_shape n lines p is, lines_keep_rules n lines p is)

pub returns-clause-made : goal.returns-clause-made
returns-clause-made c = header_begins
