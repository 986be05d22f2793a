use Rattle.sccs_grammar.proofs.CanonicalLaws.{canonical_again}
use Rattle.sccs_grammar.proofs.laws.file_again.Goals as goal

pub returns : goal.returns
returns c = canonical_again
