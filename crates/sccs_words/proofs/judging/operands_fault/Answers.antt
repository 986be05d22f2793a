use Rattle.std.proofs.Common.{Bool, ◌||◌, take, ap, ◌∙◌}
use Rattle.sccs_words.specs.Judge.{operand_fault}
use Rattle.sccs_words.proofs.FirstFaults.{fault_turn, none_turn, none_end}
use Rattle.sccs_words.proofs.LetterLaws.{dashes}
use Rattle.sccs_words.proofs.judging.operands_fault.Goals as goal

pub operand_fault-found-requires-clause-dash : goal.operand_fault-found-requires-clause-dash
operand_fault-found-requires-clause-dash c = c.operands.invariant.1

pub returns-in-Some : goal.returns-in-Some
returns-in-Some c = fault_turn (operand_fault c.args.rule c.args.line.now.uses.now c.args.line.now.first)
    c.args.line.now.operands.now c.operands.i c.index-words-i.result _ _ c.operands-test.true c.index-words-i.is
    (c.in-Some.ensures ∙ ap (operand_fault c.args.rule c.args.line.now.uses.now c.args.line.now.first
    (take c.operands.i c.args.line.now.operands.now)) c.bytes.ensures) c.operands.invariant.0

pub operands-preserved : goal.operands-preserved
operands-preserved c = (
  none_turn (operand_fault c.args.rule c.args.line.now.uses.now c.args.line.now.first) c.args.line.now.operands.now
      c.operands.i c.index-words-i.result _ c.operands-test.true c.index-words-i.is (c.in-None.ensures
      ∙ ap (operand_fault c.args.rule c.args.line.now.uses.now c.args.line.now.first
      (take c.operands.i c.args.line.now.operands.now)) c.bytes.ensures) c.operands.invariant.0,
  dashes c.args.line.now.operands.now c.operands.i c.index-words-i.result c.bytes-in-operands.result.now
      c.operands.had_dash _ c.operands-test.true c.index-words-i.is c.bytes-in-operands.ensures c.operands.invariant.1
      (ap (λ (dash : Bool). c.operands.had_dash || dash) c.is_dash-had_dash.ensures),
)

pub returns : goal.returns
returns c = none_end (operand_fault c.args.rule c.args.line.now.uses.now c.args.line.now.first)
    c.args.line.now.operands.now c.operands.i _ c.operands-test.false c.operands.invariant.0
