use Rattle.sccs_grammar_laws.proofs.BodyPrefixes.{ends_whole, body_ends}
use Rattle.sccs_grammar_laws.proofs.laws.body_prefixes_are_viable.Goals as goal

pub returns-clause-items : goal.returns-clause-items
returns-clause-items c = ends_whole

pub returns-clause-lines : goal.returns-clause-lines
returns-clause-lines c = body_ends
