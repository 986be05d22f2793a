use Rattle.sccs_group.proofs.Groups.{new_pair_is, other_pair_is}
use Rattle.sccs_group.proofs.laws.intents_name_the_new_files.Goals as goal

pub returns-clause-members : goal.returns-clause-members
returns-clause-members c = new_pair_is

pub returns-clause-others : goal.returns-clause-others
returns-clause-others c = other_pair_is
