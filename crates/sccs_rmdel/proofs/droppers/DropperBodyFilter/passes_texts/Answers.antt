use Rattle.std.proofs.Common.{ap, ◌==◌, not}
use Rattle.sccs_rmdel.proofs.DropLaws.{drop_texts}
use Rattle.sccs_rmdel.proofs.droppers.DropperBodyFilter.passes_texts.Goals as goal

pub returns : goal.returns
returns c = drop_texts c.args.self.now _ (λ before opens. ap (λ n. not (n == c.args.self.now.serial))
    (c.inserter.ensures before opens))
