use Rattle.std.proofs.Common.{OnOk, subst}
use Rattle.sccs_disk.specs.Images.{IsOwn}
use Rattle.sccs_name_files.specs.Touches.{Leaves}
use Rattle.sccs_store.proofs.working_files.start.Goals as goal

pub returns-clause-own : goal.returns-clause-own
returns-clause-own g c = subst (λ k. OnOk c.renew.result (Leaves (IsOwn k) (g.D.Disk.told c.args.disk.now)
    (g.D.Disk.told c.renew.new.disk))) c.sibling.ensures c.renew.ensures.own
