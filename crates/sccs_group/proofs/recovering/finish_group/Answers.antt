use Rattle.std.proofs.Common.{◌≡◌, Bool, Err, Result, subst, sym}
use Rattle.sccs_disk.specs.Causes.{DiskCauses}
use Rattle.sccs_sid.specs.declared.refusals.StepFault.{StepFault}
use Rattle.sccs_sid.specs.declared.refusals.StepFault.TheVariants as step
use Rattle.sccs_group.specs.Ended.{FinishesGroup}
use Rattle.sccs_group.proofs.GroupEnds.{finish_causes, finish_ends}
use Rattle.sccs_group.proofs.recovering.finish_group.Goals as goal

pub returns-clause-ends : goal.returns-clause-ends
returns-clause-ends g c =
    subst (λ (r : Result Bool StepFault). FinishesGroup r (g.D.Disk.told c.args.disk.now)
    (g.D.Disk.told c.finish_named.new.disk)) (sym c.step_result.ensures)
    (finish_ends c.finish_named.result (g.D.Disk.told c.args.disk.now) (g.D.Disk.told c.finish_named.new.disk)
    c.finish_named.ensures.done c.finish_named.ensures.view c.finish_named.ensures.found c.finish_named.ensures.form
    c.finish_named.ensures.bad
    c.finish_named.ensures.memory c.finish_named.ensures.touches c.finish_named.ensures.story
    c.finish_named.ensures.halfway)

pub returns-clause-causes : goal.returns-clause-causes
returns-clause-causes g c =
    subst (λ (r : Result Bool StepFault). DiskCauses (r ≡ Err step.DiskFault) (g.D.Disk.faults c.args.disk.now)
    (g.D.Disk.faults c.finish_named.new.disk)) (sym c.step_result.ensures)
    (finish_causes c.finish_named.result _ _ c.finish_named.ensures.causes)
