use Rattle.sccs_pfile.proofs.Reserving.{reserving_keeps}
use Rattle.sccs_pfile.proofs.laws.new_entries_agree.Goals as goal

pub returns : goal.returns
returns c = reserving_keeps
