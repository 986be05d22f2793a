use Rattle.sccs_group.proofs.OwnNames.{plan_is}
use Rattle.sccs_group.proofs.names.plan_name.Goals as goal

pub named-requires : goal.named-requires
named-requires c = plan_is
