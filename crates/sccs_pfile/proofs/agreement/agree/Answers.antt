use Rattle.sccs_pfile.proofs.Agreeing.{found_disagrees, none_disagrees}
use Rattle.sccs_pfile.proofs.agreement.agree.Goals as goal

pub returns-in-Some-clause-exact : goal.returns-in-Some-clause-exact
returns-in-Some-clause-exact c = found_disagrees _ _ _ _ c.in-Some.place _ c.items.ensures c.items-2.ensures
    c.first_by_sets.ensures c.in-Some.is

pub returns-in-None-clause-exact : goal.returns-in-None-clause-exact
returns-in-None-clause-exact c = none_disagrees _ _ _ _ _ c.items.ensures c.items-2.ensures c.first_by_sets.ensures
    c.in-None.is
