use Rattle.sccs_rmdel.proofs.DropLaws.{drop_ends}
use Rattle.sccs_rmdel.proofs.droppers.DropperBodyFilter.finish.Goals as goal

pub returns : goal.returns
returns g c = drop_ends c.args.self.now c.args._out.now (g.D.Disk.told c.args._disk.now)
    (g.D.Disk.faults c.args._disk.now)
