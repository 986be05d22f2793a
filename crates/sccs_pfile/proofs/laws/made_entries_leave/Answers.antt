use Rattle.sccs_pfile.proofs.Recovering.{entry_leaves, others_stay}
use Rattle.sccs_pfile.proofs.laws.made_entries_leave.Goals as goal

pub returns-clause-leaves : goal.returns-clause-leaves
returns-clause-leaves c = entry_leaves

pub returns-clause-others : goal.returns-clause-others
returns-clause-others c = others_stay
