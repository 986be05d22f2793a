use Rattle.std.proofs.Common.{◌≡◌, ◌≤◌, Some}
use Rattle.sccs_disk.specs.Files.{View}
use Rattle.sccs_disk.specs.Told.{seen}
use Rattle.sccs_val.specs.Reports.{operand_status, operand_text}
use Rattle.sccs_val.proofs.JudgingLaws.{Judged}
use Rattle.sccs_val.proofs.judging.judge_operands.Given as goal

-- the operands so far were judged
abbrev pub invariant-loop-operand : goal.invariant-loop-operand
invariant-loop-operand g l = record {
  so_far : (v : View) → seen (g.D.Disk.told l.fn.disk) ≡ Some v → Judged (operand_text l.words v)
      (operand_status l.words v) l.operands l.operand-index l.status l.fn.report.items l.report.items;
  same : g.D.Disk.told l.disk ≡ g.D.Disk.told l.fn.disk;
  later : g.D.Disk.faults l.fn.disk ≤ g.D.Disk.faults l.disk;
}
