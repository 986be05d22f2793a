use Rattle.std.proofs.lemmas.Result.{err_from_is_err_and}
use Rattle.sccs_base.specs.Name.{x_file}
use Rattle.sccs_disk.specs.Told.{seen}
use Rattle.sccs_delta.proofs.WriteLaws.{x_unwritten}
use Rattle.sccs_delta.proofs.preparing.write_x.Goals as goal

pub returns-in_err-write_sfile-clause-told : goal.returns-in_err-write_sfile-clause-told
returns-in_err-write_sfile-clause-told g c =
    let p = err_from_is_err_and c.from_residual.result c.from_residual.ensures.1 in
    rw (p.1) (λ bytes items is come.
    x_unwritten c.args.file.header items (x_file c.args.name.now) (seen (g.D.Disk.told c.args.disk.now))
    (seen (g.D.Disk.told c.write_sfile.new.disk)) c.in_err-write_sfile.field-0.0 p.0
    (c.in_err-write_sfile.ensures.told bytes items is come) p.2)
