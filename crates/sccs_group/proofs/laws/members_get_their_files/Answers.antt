use Rattle.sccs_group.proofs.Ready.{all_ready, each_ready, others_ready, p_ready, s_ready, y_ready}
use Rattle.sccs_group.proofs.laws.members_get_their_files.Goals as goal

pub returns-clause-s : goal.returns-clause-s
returns-clause-s c = s_ready

pub returns-clause-p : goal.returns-clause-p
returns-clause-p c = p_ready

pub returns-clause-y : goal.returns-clause-y
returns-clause-y c = y_ready

pub returns-clause-all : goal.returns-clause-all
returns-clause-all c = all_ready

pub returns-clause-others : goal.returns-clause-others
returns-clause-others c = others_ready

pub returns-clause-each : goal.returns-clause-each
returns-clause-each c = each_ready
