use Rattle.sccs_delta.proofs.AgreeLaws.{others_agree}
use Rattle.sccs_delta.proofs.laws.left_entries_agree.Goals as goal

pub returns : goal.returns
returns c = others_agree
