use Rattle.std.proofs.lemmas.Result.{err_from_is_err_and}
use Rattle.std.proofs.Common.{ap}
use Rattle.sccs_disk.specs.Told.{seen}
use Rattle.sccs_delta.proofs.FitLaws.{base_read, base_ends}
use Rattle.sccs_delta.proofs.scripts.read_base.Goals as goal

pub returns-clause-told : goal.returns-clause-told
returns-clause-told g c = λ file items is.
    base_read (seen (g.D.Disk.told c.args.disk.now)) (seen (g.D.Disk.told c.is_there.new.disk)) c.args.name.now
    c.module.result c.args.script.now c.args.front.now c.args.set.now file items c.in-Ok.compares
    c.most_lines.result c.in-Ok-longest_plan.plan c.in_ok-examine.field-0
    (ap seen c.is_there.ensures.same) c.module.ensures is c.requires.ordered c.in-Ok.ensures.told
    c.most_lines.ensures.value c.in-Ok-longest_plan.ensures.value c.in_ok-examine.ensures.alone
    c.in_ok-examine.ensures.told

pub returns-in_err-examine-clause-told : goal.returns-in_err-examine-clause-told
returns-in_err-examine-clause-told g c =
    let p = err_from_is_err_and c.from_residual.result c.from_residual.ensures.1 in
    rw (p.1) (λ file items is.
    base_ends (seen (g.D.Disk.told c.args.disk.now)) (seen (g.D.Disk.told c.is_there.new.disk)) c.args.name.now
    c.args.script.now c.args.front.now c.args.set.now file items c.in-Ok.compares c.in-Ok-longest_plan.plan
    c.in_err-examine.field-0.0 p.0
    (ap seen c.is_there.ensures.same) is p.2 c.in_err-examine.ensures.told)
