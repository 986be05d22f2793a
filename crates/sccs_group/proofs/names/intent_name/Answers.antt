use Rattle.sccs_group.proofs.OwnNames.{intent_is}
use Rattle.sccs_group.proofs.names.intent_name.Goals as goal

pub named-requires : goal.named-requires
named-requires c = intent_is
