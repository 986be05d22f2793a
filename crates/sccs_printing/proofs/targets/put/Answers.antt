use Rattle.std.proofs.Common.{Err, refl, rules}
use Rattle.sccs_printing.proofs.FileTargets.{file_causes, file_cut, file_given, mark_kept, no_refusal, sink_spared}
use Rattle.sccs_printing.proofs.targets.put.Goals as goal

pub returns-in-Ok-put-clause-gives : goal.returns-in-Ok-put-clause-gives
returns-in-Ok-put-clause-gives g c = file_given c.args.target.now c.args.text.now c.in-ToFile.writer c.put.new.self
    (g.O.Sink.given c.args.out.now) (g.D.Disk.told c.args.disk.now) (g.D.Disk.told c.put.new.disk) c.in-ToFile.is
    c.in-Ok-put.ensures.ok

pub returns-in-Err-put-clause-gives : goal.returns-in-Err-put-clause-gives
returns-in-Err-put-clause-gives g c = file_cut c.args.target.now c.args.text.now _ _ c.in-ToFile.writer
    c.in-Err-put.refusal c.step_fault.result _ _ c.in-ToFile.is c.step_fault.ensures

pub returns-in-Ok-put-clause-frame : goal.returns-in-Ok-put-clause-frame
returns-in-Ok-put-clause-frame g c = record {
  reaches = search rules;
  mark = mark_kept c.args.target.now c.args.text.now c.in-ToFile.writer c.put.new.self (g.D.Disk.told c.args.disk.now)
      (g.D.Disk.told c.put.new.disk) c.in-ToFile.is c.in-Ok-put.ensures.ok;
  spares = search rules;
  causes = search rules;
  checks = search rules;
}

pub returns-in-Err-put-clause-frame : goal.returns-in-Err-put-clause-frame
returns-in-Err-put-clause-frame g c = record {
  reaches = search rules;
  mark = search rules;
  spares = sink_spared c.args.target.now c.in-ToFile.writer c.in-Err-put.refusal c.step_fault.result c.in-ToFile.is
      c.step_fault.ensures;
  causes = file_causes c.put.result c.in-Err-put.refusal c.step_fault.result _ _ _ c.in-Err-put.is c.step_fault.ensures
      c.put.ensures.later c.put.ensures.cause;
  checks = λ other e. absurd (no_refusal c.in-Err-put.refusal c.step_fault.result other (Err c.step_fault.result)
      c.step_fault.ensures refl e);
}
