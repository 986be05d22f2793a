use Rattle.std.proofs.Common.{◌≡◌, ◌++◌, arith, ◌∙◌, ap, refl}
use Rattle.sccs_disk.specs.Told.{seen}
use Rattle.sccs_val.specs.Reports.{operand_status, operand_text, operands_status, operands_text}
use Rattle.sccs_val.proofs.JudgingLaws.{if_told, judged_all, judged_more, judged_none, ok_causes, same_causes, told_at}
use Rattle.sccs_val.proofs.judging.judge_operands.Goals as goal

pub loop-operand-init : goal.loop-operand-init
loop-operand-init g c = record {
  so_far = λ v is. judged_none (operand_text c.args.words.now v)
      (operand_status c.args.words.now v) c.args.operands.now c.args.report.now.items;
  same = refl;
  later = omega arith;
}

pub loop-operand-preserved : goal.loop-operand-preserved
loop-operand-preserved g c =
    let w = c.args.words.now in
    let n = c.bytes.result.now in
    record {
      so_far = λ v is.
          let here = told_at (λ v. (c.in-Ok.bits ≡ operand_status w v n)
          × (c.judge_operand.new.report.items ≡ c.loop-operand.report.items ++ operand_text w v n))
          (seen (g.D.Disk.told c.loop-operand.disk)) v (ap seen c.loop-operand.invariant.same
          ∙ is) c.in-Ok.ensures.told in
          judged_more (operand_text w v) (operand_status w v) c.args.operands.now c.loop-operand.operand-index
          c.loop-operand.status c.in-Ok.bits c.operand-item.result c.args.report.now.items
          c.loop-operand.report.items c.judge_operand.new.report.items
          c.loop-operand-test.true c.operand-item.is (c.loop-operand.invariant.so_far v is) (here.0
          ∙ ap (λ x. operand_status w v x) c.bytes.ensures) (here.1
          ∙ ap (λ x. c.loop-operand.report.items ++ operand_text w v x) c.bytes.ensures);
      same = c.in-Ok.ensures.same ∙ c.loop-operand.invariant.same;
      later = omega (arith, c.loop-operand.invariant.later, (c.in-Ok.ensures.causes 0).disk_later);
    }

pub returns-in-Err-clause-same : goal.returns-in-Err-clause-same
returns-in-Err-clause-same g c = c.in-Err.ensures.same ∙ c.loop-operand.invariant.same

pub returns-in-Err-clause-causes : goal.returns-in-Err-clause-causes
returns-in-Err-clause-causes g c = λ out. same_causes c.in-Err.fault out out _ (g.D.Disk.faults c.loop-operand.disk) _
    c.loop-operand.invariant.later (c.in-Err.ensures.causes out)

pub returns-clause-told : goal.returns-clause-told
returns-clause-told g c =
    let w = c.args.words.now in
    if_told (λ v. (c.loop-operand.status ≡ operands_status w v c.args.operands.now)
    × (c.loop-operand.report.items ≡ c.args.report.now.items ++ operands_text w v c.args.operands.now))
    (seen (g.D.Disk.told c.args.disk.now))
    (λ v is. judged_all (operand_text w v) (operand_status w v) c.args.operands.now c.loop-operand.operand-index
    c.loop-operand.status c.args.report.now.items c.loop-operand.report.items c.loop-operand-test.false
    (c.loop-operand.invariant.so_far v is))

pub returns-clause-causes : goal.returns-clause-causes
returns-clause-causes g c = λ out. ok_causes c.loop-operand.status out _ _ c.loop-operand.invariant.later
