use Rattle.std.proofs.Common.{[], Result, subst}
use Rattle.sccs_sid.specs.declared.refusals.StepFault.{StepFault}
use Rattle.sccs_printing.specs.Targets.{GivesTo, file_of, target_bytes, held_back}
use Rattle.sccs_printing.proofs.TargetLaws.{cut_at_flush, cut_before_flush}
use Rattle.sccs_printing.proofs.printing.finish.Goals as goal

pub returns-in-Ok-given-2-clause-prints : goal.returns-in-Ok-given-2-clause-prints
returns-in-Ok-given-2-clause-prints g c = λ text before gives.
    let to = file_of c.args.giving.now.target in
    let mid = target_bytes to (g.O.Sink.given c.args.out.now) (g.D.Disk.told c.args.disk.now) in
    let end = target_bytes to (g.O.Sink.given c.flush.new.out) (g.D.Disk.told c.flush.new.disk) in
    cut_at_flush to text (held_back c.args.giving.now.target) (held_back c.flush.new.target) c.in-Err.fault before mid
    end
    (subst (λ (r : Result (Unit {0}) StepFault). GivesTo to text r [] (held_back c.args.giving.now.target) before mid)
    c.in-Ok-given-2.is gives) c.in-Err.ensures.gives

pub returns-in-Err-given-2-clause-prints : goal.returns-in-Err-given-2-clause-prints
returns-in-Err-given-2-clause-prints g c = λ text before gives.
    let to = file_of c.args.giving.now.target in
    let mid = target_bytes to (g.O.Sink.given c.args.out.now) (g.D.Disk.told c.args.disk.now) in
    let end = target_bytes to (g.O.Sink.given c.flush.new.out) (g.D.Disk.told c.flush.new.disk) in
    cut_before_flush to c.flush.result text (held_back c.args.giving.now.target) (held_back c.flush.new.target)
    c.in-Err-given-2.first before mid end
    (subst (λ (r : Result (Unit {0}) StepFault). GivesTo to text r [] (held_back c.args.giving.now.target) before mid)
    c.in-Err-given-2.is gives) c.flush.ensures.gives
