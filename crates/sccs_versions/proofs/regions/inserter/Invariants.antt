use Rattle.std.proofs.Common.{◌≡◌, ◌≤◌, [], length, take}
use Rattle.sccs_versions.specs.Regions.{first_insert}
use Rattle.sccs_versions.specs.Stacks.{stacked}
use Rattle.sccs_versions.proofs.regions.inserter.Given as goal

-- those that are left decide
abbrev pub invariant-regions : goal.invariant-regions
invariant-regions l = record {
  within : l.left ≤ length l.regions;
  rest : first_insert (stacked [] (take l.left l.regions)) ≡ first_insert (stacked [] l.regions);
}

abbrev pub decreases-regions : goal.decreases-regions
decreases-regions l = l.left
