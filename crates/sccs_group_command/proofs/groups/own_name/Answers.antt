use Rattle.sccs_group_command.proofs.GroupNames.{dash_is}
use Rattle.sccs_group_command.proofs.groups.own_name.Goals as goal

pub named-requires : goal.named-requires
named-requires c = dash_is
