use Rattle.std.proofs.lemmas.Result.{err_from_is_err_and}
use Rattle.sccs_disk.specs.Told.{seen}
use Rattle.sccs_alter.proofs.CheckLaws.{file_checked, file_refused}
use Rattle.sccs_alter.proofs.checks.check_file.Goals as goal

pub returns-clause-told : goal.returns-clause-told
returns-clause-told g c = file_checked c.args.name.now (seen (g.D.Disk.told c.args.disk.now)) c.in_ok-inspect.field-0
    c.in_ok-inspect.ensures.told

pub returns-in_err-inspect-clause-told : goal.returns-in_err-inspect-clause-told
returns-in_err-inspect-clause-told g c =
    let p = err_from_is_err_and c.from_residual.result c.from_residual.ensures.1 in
    rw (p.1) (file_refused c.args.name.now (seen (g.D.Disk.told c.args.disk.now)) c.in_err-inspect.field-0.0
    p.0 p.2 c.in_err-inspect.ensures.told)
