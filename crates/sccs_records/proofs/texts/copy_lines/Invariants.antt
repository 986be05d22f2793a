use Rattle.std.proofs.Common.{◌≡◌, take}
use Rattle.sccs_history.specs.History.{AreLines}
use Rattle.sccs_records.proofs.texts.copy_lines.Given as goal

-- the lines so far were copied
abbrev pub invariant-loop-line : goal.invariant-loop-line
invariant-loop-line l = record {
  same : l.copy ≡ take l.line-index l.lines;
  lines : AreLines l.copy;
}
