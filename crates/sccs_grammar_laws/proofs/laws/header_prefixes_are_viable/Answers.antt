use Rattle.sccs_grammar_laws.proofs.HeaderPrefixes.{header_ends}
use Rattle.sccs_grammar_laws.proofs.laws.header_prefixes_are_viable.Goals as goal

pub returns : goal.returns
returns c = header_ends
