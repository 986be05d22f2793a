use Rattle.sccs_group.proofs.OtherNames.{begin_but, begin_unlocked}
use Rattle.sccs_group.proofs.laws.groups_begin_unlocked.Goals as goal

pub returns-clause-but : goal.returns-clause-but
returns-clause-but c = begin_but

pub returns-clause-all : goal.returns-clause-all
returns-clause-all c = begin_unlocked
