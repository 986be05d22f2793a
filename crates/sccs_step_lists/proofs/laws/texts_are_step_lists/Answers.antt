use Rattle.sccs_step_lists.specs.Tests.{Passes, StatusPasses, StepsPass}
use Rattle.sccs_step_lists.proofs.SaidStepLists.{never_step_list, nothing_step_list, said_step_list}
use Rattle.sccs_step_lists.proofs.laws.texts_are_step_lists.Goals as goal

pub returns-clause-said : goal.returns-clause-said
returns-clause-said c = λ out err code given r s t same is causes. said_step_list out err code (Passes given) r s t same
    is causes

pub returns-clause-nothing : goal.returns-clause-nothing
returns-clause-nothing c = λ code given begun s. nothing_step_list code (Passes given) (StepsPass begun) s

pub returns-clause-never : goal.returns-clause-never
returns-clause-never c = λ step_list given whole begun ts fault s t takes some might same causes.
    never_step_list step_list (Passes given) (StatusPasses whole) (StepsPass begun) ts fault s t takes some might same
    causes
