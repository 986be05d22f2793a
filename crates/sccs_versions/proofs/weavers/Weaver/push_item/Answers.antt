use Rattle.std.proofs.Common.{[], ◌∷◌, sym, subst}
use Rattle.sccs_versions.specs.Stacks.{stacked}
use Rattle.sccs_versions.specs.Regions.{AreSorted, Holds, OpensRegions}
use Rattle.sccs_versions.proofs.Steps.{holds-behind, opens-behind, sorted-behind}
use Rattle.sccs_versions.proofs.weavers.Weaver.push_item.Goals as goal

pub returns-clause-sorted : goal.returns-clause-sorted
returns-clause-sorted c =
    subst AreSorted (sym c.in_ok-self-inside.ensures.ok) (sorted-behind c.args.applied.now c.args.item.now
    (stacked [] c.self.inside.regions.items) c.self.invariant.sorted)

pub invariant_of-self-2 : goal.invariant_of-self-2
invariant_of-self-2 c = record {
  sorted =
      subst AreSorted (sym c.in_ok-self-inside.ensures.ok) (sorted-behind c.args.applied.now c.args.item.now
      (stacked [] c.self.inside.regions.items) c.self.invariant.sorted);
  keep_is = c.in_ok-self-inside.ensures.keep;
}

pub returns-clause-ok : goal.returns-clause-ok
returns-clause-ok c = λ before holds.
    subst (Holds c.args.applied.now (c.args.item.now ∷ before)) (sym c.in_ok-self-inside.ensures.ok)
    (holds-behind c.args.applied.now c.args.item.now before (stacked [] c.self.inside.regions.items)
    c.self.invariant.sorted (subst (Holds c.args.applied.now before) (sym c.self.view_is) holds))

pub returns-clause-opens : goal.returns-clause-opens
returns-clause-opens c = λ before opens.
    subst (OpensRegions (c.args.item.now ∷ before)) (sym c.in_ok-self-inside.ensures.ok)
    (opens-behind c.args.applied.now c.args.item.now before (stacked [] c.self.inside.regions.items)
    c.self.invariant.sorted (subst (OpensRegions before) (sym c.self.view_is) opens))
