use Rattle.sccs_grammar.proofs.AnySumLaws.{passed_over}
use Rattle.sccs_body.proofs.laws.sums_are_passed_over.Goals as goal

pub returns : goal.returns
returns c = passed_over
