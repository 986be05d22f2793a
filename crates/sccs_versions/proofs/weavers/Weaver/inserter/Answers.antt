use Rattle.std.proofs.Common.{[], ap, sym, subst, ◌∙◌}
use Rattle.sccs_versions.specs.Stacks.{stacked}
use Rattle.sccs_versions.specs.Regions.{OpensRegions, first_insert}
use Rattle.sccs_versions.proofs.Keeps.{inserter_regions}
use Rattle.sccs_versions.proofs.weavers.Weaver.inserter.Goals as goal

pub returns : goal.returns
returns c = λ before opens.
    c.inserter.ensures ∙ ap (λ l. first_insert (stacked [] l)) c.deref.ensures.value ∙ inserter_regions before
    (stacked [] c.self.inside.regions.items) c.self.invariant.sorted (subst (OpensRegions before)
    (sym c.self.view_is) opens)
