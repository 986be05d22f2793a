use Rattle.sccs_history.proofs.AppliedSets.{applied_agrees, applied_only, applied_live}
use Rattle.sccs_history.proofs.laws.applied_sets.Goals as goal

pub returns-clause-agrees : goal.returns-clause-agrees
returns-clause-agrees c = λ asked records falls. applied_agrees asked records 65536 falls

pub returns-clause-only : goal.returns-clause-only
returns-clause-only c = λ asked records set falls agrees. applied_only asked records 65536 set falls agrees

pub returns-clause-live : goal.returns-clause-live
returns-clause-live c = applied_live
