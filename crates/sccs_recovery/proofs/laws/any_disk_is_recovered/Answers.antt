use Rattle.sccs_step_lists.specs.Tests.{Passes}
use Rattle.sccs_recovery.proofs.AnyDisks.{both_recover, failed_recover}
use Rattle.sccs_recovery.proofs.laws.any_disk_is_recovered.Goals as goal

pub returns-clause-goes_on : goal.returns-clause-goes_on
returns-clause-goes_on c = λ x steps given status r a b d ended goes. both_recover x steps (Passes given) status r a b d
    ended goes

pub returns-clause-failed : goal.returns-clause-failed
returns-clause-failed c = failed_recover
