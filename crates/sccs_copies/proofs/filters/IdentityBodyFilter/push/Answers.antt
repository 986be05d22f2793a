use Rattle.sccs_copies.proofs.SplicingLaws.{item_put}
use Rattle.sccs_copies.proofs.filters.IdentityBodyFilter.push.Goals as goal

pub returns : goal.returns
returns g c = item_put c.args.item.now c.args.self.now c.args.self.now c.args.out.now c.put.new.self _ _ _ _
    c.put.result c.put.ensures
