use Rattle.std.proofs.Common.{◌≡◌, Err, subst}
use Rattle.sccs_disk.specs.Told.{Told}
use Rattle.sccs_steps.specs.declared.faults.Fault.TheVariants as ends
use Rattle.sccs_recovery.specs.FinishingEnds.{FinishEnds, FinishOthers}
use Rattle.sccs_recovery.proofs.FreedNames.{causes_after, cut_same, given_ok, others_same}
use Rattle.sccs_recovery.proofs.finishing.finish_names.Goals as goal

pub returns-in-Ok-clause-ends : goal.returns-in-Ok-clause-ends
returns-in-Ok-clause-ends g c = subst (λ (t : Told). FinishEnds c.finish_disk.result t
    (g.D.Disk.told c.finish_disk.new.disk)) c.freed_names.ensures.same c.finish_disk.ensures.ends

pub returns-in-Ok-clause-others : goal.returns-in-Ok-clause-others
returns-in-Ok-clause-others g c = subst (λ (t : Told). FinishOthers t (g.D.Disk.told c.finish_disk.new.disk))
    c.freed_names.ensures.same c.finish_disk.ensures.others

pub returns-in-Ok-clause-causes : goal.returns-in-Ok-clause-causes
returns-in-Ok-clause-causes g c = causes_after (c.finish_disk.result ≡ Err ends.DiskFault) _ _ _
    c.freed_names.ensures.causes.later c.finish_disk.ensures.causes

pub returns-in-Ok-clause-freed : goal.returns-in-Ok-clause-freed
returns-in-Ok-clause-freed g c = given_ok c.finish_disk.result c.in-Ok.ensures.told

pub returns-in-Err-Memory-clause-ends : goal.returns-in-Err-Memory-clause-ends
returns-in-Err-Memory-clause-ends g c = subst (λ (t : Told). FinishEnds (Err c.lose_plan.result) t
    (g.D.Disk.told c.lose_plan.new.disk)) c.freed_names.ensures.same c.lose_plan.ensures.ends

pub returns-in-Err-Memory-clause-others : goal.returns-in-Err-Memory-clause-others
returns-in-Err-Memory-clause-others g c = subst (λ (t : Told). FinishOthers t (g.D.Disk.told c.lose_plan.new.disk))
    c.freed_names.ensures.same c.lose_plan.ensures.others

pub returns-in-Err-Failed-clause-ends : goal.returns-in-Err-Failed-clause-ends
returns-in-Err-Failed-clause-ends g c = cut_same _ _ c.freed_names.ensures.same

pub returns-in-Err-Failed-clause-others : goal.returns-in-Err-Failed-clause-others
returns-in-Err-Failed-clause-others g c = others_same _ _ c.freed_names.ensures.same
