use Rattle.sccs_trunks.proofs.TextLengths.{length_revised}
use Rattle.sccs_trunks.proofs.laws.revised_lengths.Goals as goal

pub returns : goal.returns
returns c = λ text script changes e. length_revised text script changes e
