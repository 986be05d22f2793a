use Rattle.sccs_step_lists.specs.Tests.{Passes, StatusPasses, StepsPass}
use Rattle.sccs_step_lists.proofs.JoinedStepLists.{step_list_cut, step_list_then}
use Rattle.sccs_step_lists.proofs.laws.step_lists_follow_one_another.Goals as goal

pub returns-clause-ended : goal.returns-clause-ended
returns-clause-ended c = λ first rest given given1 given2 whole begun whole2 begun2 one r s t u to1 to2 takes done next.
    step_list_then first rest (Passes given) (Passes given1) (Passes given2) (StatusPasses whole) (StepsPass begun)
    (λ code. StatusPasses (whole2 code)) (λ code. StepsPass (begun2 code)) one r s t u to1 to2 takes done next

pub returns-clause-cut : goal.returns-clause-cut
returns-clause-cut c = λ first rest given given1 whole begun whole2 begun2 fault s t to1 takes cut.
    step_list_cut first rest (Passes given) (Passes given1) (StatusPasses whole) (StepsPass begun)
    (λ code. StatusPasses (whole2 code)) (λ code. StepsPass (begun2 code)) fault s t to1 takes cut
