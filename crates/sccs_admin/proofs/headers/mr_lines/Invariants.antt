use Rattle.std.proofs.Common.{◌≡◌, take}
use Rattle.sccs_history.specs.History.{AreLines}
use Rattle.sccs_admin.proofs.headers.mr_lines.Given as goal

-- the lines so far were copied
abbrev pub invariant-loop-mr : goal.invariant-loop-mr
invariant-loop-mr l = record {
  same : l.text ≡ take l.mr-index l.mrs;
  lines : AreLines l.text;
}
