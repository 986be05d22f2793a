use Rattle.sccs_sid.proofs.MomentTexts.{moment_text_again}
use Rattle.sccs_sid.proofs.moments.moment_again.Goals as goal

pub returns : goal.returns
returns c = moment_text_again
