use Rattle.sccs_copies.proofs.SplicingLaws.{output_made, output_told}
use Rattle.sccs_copies.proofs.laws.spliced_outputs.Goals as goal

pub returns-clause-told : goal.returns-clause-told
returns-clause-told c = output_told

pub returns-clause-made : goal.returns-clause-made
returns-clause-made c = output_made
