use Rattle.std.proofs.Common.{◌≡◌, ◌≤◌, [], length, take}
use Rattle.sccs_versions.specs.Regions.{keeps}
use Rattle.sccs_versions.specs.Stacks.{stacked}
use Rattle.sccs_versions.proofs.regions.keeps.Given as goal

-- those that are left decide
abbrev pub invariant-regions : goal.invariant-regions
invariant-regions l = record {
  within : l.left ≤ length l.regions;
  rest : keeps (stacked [] (take l.left l.regions)) ≡ keeps (stacked [] l.regions);
}

abbrev pub decreases-regions : goal.decreases-regions
decreases-regions l = l.left
