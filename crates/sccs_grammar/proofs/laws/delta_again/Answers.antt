use Rattle.sccs_tokens.proofs.DeltaLaws.{token_delta}
use Rattle.sccs_grammar.proofs.laws.delta_again.Goals as goal

pub returns : goal.returns
returns c = token_delta
