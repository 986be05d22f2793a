use Rattle.sccs_sid.proofs.SidTexts.{sid_text_again}
use Rattle.sccs_sid.proofs.sids.sid_again.Goals as goal

pub returns : goal.returns
returns c = sid_text_again
