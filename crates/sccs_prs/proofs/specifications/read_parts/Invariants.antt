use Rattle.std.proofs.Common.{◌≡◌, ◌-◌, ◌≤◌, ◌++◌, drop, length}
use Rattle.sccs_prs.specs.DataKeywords.{data_parts}
use Rattle.sccs_prs.proofs.specifications.read_parts.Given as goal

-- with the parts of what is left, those that were read are all
abbrev pub invariant-parts : goal.invariant-parts
invariant-parts l = record {
  fits : l.from ≤ length l.spec;
  read : l.read.items ++ data_parts (drop l.from l.spec) ≡ data_parts l.spec;
}

abbrev pub decreases-parts : goal.decreases-parts
decreases-parts l = length l.spec - l.from
