use Rattle.std.proofs.Common.{◌≡◌, ◌++◌, drop}
use Rattle.sccs_alter.specs.Changes.{without_mr}
use Rattle.sccs_alter.proofs.mrs.without_mr.Given as goal

-- the MRs so far and those left of the rest are all that are left
abbrev pub invariant-loop-one : goal.invariant-loop-one
invariant-loop-one l = l.left ++ without_mr (drop l.one-index l.mrs) l.mr ≡ without_mr l.mrs l.mr
