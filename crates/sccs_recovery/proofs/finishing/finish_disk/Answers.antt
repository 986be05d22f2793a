use Rattle.std.proofs.Common.{◌≡◌, Err, Result, subst, sym, ℕ}
use Rattle.sccs_disk.specs.Causes.{DiskCauses}
use Rattle.sccs_steps.specs.declared.faults.Fault.{Fault}
use Rattle.sccs_steps.specs.declared.faults.Fault.TheVariants as ends
use Rattle.sccs_recovery.specs.FinishingEnds.{FinishEnds}
use Rattle.sccs_recovery.proofs.FinishEnding.{finish_causes, finish_ends}
use Rattle.sccs_recovery.proofs.finishing.finish_disk.Goals as goal

pub returns-clause-ends : goal.returns-clause-ends
returns-clause-ends g c =
    subst (λ (r : Result ℕ Fault). FinishEnds r (g.D.Disk.told c.args.disk.now) (g.D.Disk.told c.finish_group.new.disk))
    (sym c.status_of.ensures)
    (finish_ends c.finish_group.result (g.D.Disk.told c.args.disk.now) (g.D.Disk.told c.finish_group.new.disk)
    c.finish_group.ensures.ends)

pub returns-clause-causes : goal.returns-clause-causes
returns-clause-causes g c =
    subst (λ (r : Result ℕ Fault). DiskCauses (r ≡ Err ends.DiskFault) (g.D.Disk.faults c.args.disk.now)
    (g.D.Disk.faults c.finish_group.new.disk)) (sym c.status_of.ensures)
    (finish_causes c.finish_group.result _ _ c.finish_group.ensures.causes)
