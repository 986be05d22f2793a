use Rattle.sccs_rmdel.proofs.Edits.{agreement_kept}
use Rattle.sccs_rmdel.proofs.laws.removal_keeps_edits.Goals as goal

pub returns : goal.returns
returns c = λ records sid r edits table found agree out. agreement_kept records sid r edits table found agree out
