use Rattle.sccs_recovery.proofs.FinishViews.{finished_recovers, finished_safe}
use Rattle.sccs_recovery.proofs.laws.finishing_keeps_what_recovers.Goals as goal

pub returns-clause-recovers : goal.returns-clause-recovers
returns-clause-recovers c = finished_recovers

pub returns-clause-safe : goal.returns-clause-safe
returns-clause-safe c = finished_safe
