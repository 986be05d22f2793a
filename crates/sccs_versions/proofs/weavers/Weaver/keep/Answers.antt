use Rattle.std.proofs.Common.{[], sym, subst, ◌∙◌}
use Rattle.sccs_versions.specs.Stacks.{stacked}
use Rattle.sccs_versions.specs.Regions.{Holds}
use Rattle.sccs_versions.proofs.Keeps.{shows_regions}
use Rattle.sccs_versions.proofs.weavers.Weaver.keep.Goals as goal

pub returns : goal.returns
returns c = λ set before text holds.
    c.self.invariant.keep_is ∙ shows_regions set before (stacked [] c.self.inside.regions.items) text
    c.self.invariant.sorted (subst (Holds set before) (sym c.self.view_is) holds)
