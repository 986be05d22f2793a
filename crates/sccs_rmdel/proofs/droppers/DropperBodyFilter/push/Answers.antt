use Rattle.sccs_rmdel.proofs.DropLaws.{drop_takes}
use Rattle.sccs_rmdel.proofs.droppers.DropperBodyFilter.push.Goals as goal

pub returns : goal.returns
returns g c =
    drop_takes c.args.self.now c.push_item.new.self c.args.item.now c.stays-wanted.result c.args.out.now
    c.put_if.new.out _ _ _ _ c.put_if.result c.in_default.ensures.opens c.stays-wanted.ensures c.put_if.ensures
