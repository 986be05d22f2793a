use Rattle.std.proofs.Common.{[], Err, refl, rules}
use Rattle.sccs_printing.proofs.FileTargets.{file_causes, file_cut, file_given, mark_kept, no_refusal, sink_spared}
use Rattle.sccs_printing.proofs.targets.flush.Goals as goal

pub returns-in-Ok-flush-clause-gives : goal.returns-in-Ok-flush-clause-gives
returns-in-Ok-flush-clause-gives g c = file_given c.args.target.now [] c.in-ToFile.writer c.flush-in-ToFile.new.self
    (g.O.Sink.given c.args.out.now) (g.D.Disk.told c.args.disk.now) (g.D.Disk.told c.flush-in-ToFile.new.disk)
    c.in-ToFile.is c.in-Ok-flush.ensures.puts.ok

pub returns-in-Err-flush-clause-gives : goal.returns-in-Err-flush-clause-gives
returns-in-Err-flush-clause-gives g c = file_cut c.args.target.now [] _ _ c.in-ToFile.writer c.in-Err-flush.refusal
    c.step_fault.result _ _ c.in-ToFile.is c.step_fault.ensures

pub returns-in-Ok-flush-clause-frame : goal.returns-in-Ok-flush-clause-frame
returns-in-Ok-flush-clause-frame g c = record {
  reaches = search rules;
  mark = mark_kept c.args.target.now [] c.in-ToFile.writer c.flush-in-ToFile.new.self (g.D.Disk.told c.args.disk.now)
      (g.D.Disk.told c.flush-in-ToFile.new.disk) c.in-ToFile.is c.in-Ok-flush.ensures.puts.ok;
  spares = search rules;
  causes = search rules;
  checks = search rules;
}

pub returns-in-Err-flush-clause-frame : goal.returns-in-Err-flush-clause-frame
returns-in-Err-flush-clause-frame g c = record {
  reaches = search rules;
  mark = search rules;
  spares = sink_spared c.args.target.now c.in-ToFile.writer c.in-Err-flush.refusal c.step_fault.result c.in-ToFile.is
      c.step_fault.ensures;
  causes = file_causes c.flush-in-ToFile.result c.in-Err-flush.refusal c.step_fault.result _ _ _ c.in-Err-flush.is
      c.step_fault.ensures c.flush-in-ToFile.ensures.puts.later c.flush-in-ToFile.ensures.puts.cause;
  checks = λ other e. absurd (no_refusal c.in-Err-flush.refusal c.step_fault.result other (Err c.step_fault.result)
      c.step_fault.ensures refl e);
}
