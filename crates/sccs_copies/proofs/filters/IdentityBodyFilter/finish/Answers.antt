use Rattle.sccs_copies.proofs.SplicingLaws.{all_put}
use Rattle.sccs_copies.proofs.filters.IdentityBodyFilter.finish.Goals as goal

pub returns : goal.returns
returns g c = all_put c.args.self.now c.args._out.now (g.D.Disk.told c.args._disk.now)
    (g.D.Disk.faults c.args._disk.now)
