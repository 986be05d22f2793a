use Rattle.sccs_tokens.proofs.BodyLaws.{items_again}
use Rattle.sccs_grammar.proofs.laws.body_again.Goals as goal

pub returns : goal.returns
returns c = items_again
