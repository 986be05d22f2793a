use Rattle.sccs_group.proofs.Groups.{recovery_behind}
use Rattle.sccs_group.proofs.laws.recovery_behind_a_group.Goals as goal

pub returns : goal.returns
returns c = recovery_behind
