use Rattle.std.proofs.Common.{◌≡◌, take, drop}
use Rattle.std.specs.List.{list_any}
use Rattle.sccs_words.specs.Judge.{first_from, is_dash, operand_fault, operands_fault}
use Rattle.sccs_words.proofs.judging.operands_fault.Given as goal

-- no fault so far
abbrev pub invariant-operands : goal.invariant-operands
invariant-operands l =
    (first_from (operand_fault l.rule l.line.uses.now l.line.first) (take l.i l.line.operands.now)
    (drop l.i l.line.operands.now) ≡ operands_fault l.rule l.line.uses.now l.line.first l.line.operands.now)
    × (l.had_dash ≡ list_any is_dash (take l.i l.line.operands.now))
