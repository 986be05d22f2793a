use Rattle.sccs_rmdel.proofs.DropLaws.{none_put}
use Rattle.sccs_rmdel.proofs.droppers.put_if.Goals as goal

pub returns-else-wanted : goal.returns-else-wanted
returns-else-wanted g c = none_put c.args.wanted c.args.item.now c.args.out.now (g.D.Disk.told c.args.disk.now)
    (g.D.Disk.faults c.args.disk.now) c.if-wanted.false
