use Rattle.sccs_step_lists.specs.Tests.{Passes, StepsPass}
use Rattle.sccs_step_lists.proofs.OneAction.{steps_step_list}
use Rattle.sccs_step_lists.proofs.laws.one_action_is_a_step_list.Goals as goal

pub returns : goal.returns
returns c = λ x made given whole begun hearing r s t takes runs. steps_step_list x made (Passes given) (StepsPass whole)
    (StepsPass begun) hearing r s t takes runs
