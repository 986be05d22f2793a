use Rattle.std.proofs.Common.{◌≡◌, ◌++◌, map, take}
use Rattle.sccs_alter.specs.Changes.{deleted_line}
use Rattle.sccs_alter.proofs.comments.push_deleted.Given as goal

-- the lines of the MRs so far were put
abbrev pub invariant-loop-mr : goal.invariant-loop-mr
invariant-loop-mr l = l.text ≡ l.fn.text ++ map deleted_line (take l.mr-index l.gone)
