use Rattle.std.proofs.Common.{◌∙◌}
use Rattle.sccs_copies.proofs.SplicingLaws.{base_refuses}
use Rattle.sccs_copies.proofs.base_splicers.BaseSplicerBodyFilter.finish.Goals as goal

pub returns-then-line-self : goal.returns-then-line-self
returns-then-line-self g c = base_refuses c.args.self.now c.args.out.now (g.D.Disk.told c.args.disk.now)
    (g.D.Disk.faults c.args.disk.now) (λ is. c.if-line-self.true (c.line.ensures ∙ is))
