use Rattle.sccs_group.proofs.Intended.{intended_members}
use Rattle.sccs_group.proofs.OtherNames.{others_left}
use Rattle.sccs_group.proofs.laws.groups_leave_other_names.Goals as goal

pub returns-clause-intended : goal.returns-clause-intended
returns-clause-intended c = intended_members

pub returns-clause-others : goal.returns-clause-others
returns-clause-others c = others_left
