use Rattle.sccs_top.proofs.KnownRecovery.{recovery_known, told_exactly}
use Rattle.sccs_top.proofs.laws.recovery_is_known.Goals as goal

pub returns-clause-known : goal.returns-clause-known
returns-clause-known c = recovery_known

pub returns-clause-exactly : goal.returns-clause-exactly
returns-clause-exactly c = told_exactly
