use Rattle.sccs_copies.proofs.SplicingLaws.{base_takes}
use Rattle.sccs_copies.proofs.base_splicers.BaseSplicerBodyFilter.push.Goals as goal

pub returns : goal.returns
returns g c =
    base_takes c.args.self.now c.push.new.self c.push_item.new.self c.args.item.now c.is_visible-visible.result
    c.args.out.now c.push.new.out _ _ _ _ c.push.result c.in_default.ensures.ok c.is_visible-visible.ensures
    c.push.ensures.splices
