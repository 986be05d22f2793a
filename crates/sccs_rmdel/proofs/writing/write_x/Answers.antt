use Rattle.std.proofs.lemmas.Result.{err_from_is_err_and}
use Rattle.sccs_disk.specs.Told.{seen}
use Rattle.sccs_rmdel.proofs.WriteLaws.{x_unwritten}
use Rattle.sccs_rmdel.proofs.writing.write_x.Goals as goal

pub returns-in_err-write_sfile-clause-told : goal.returns-in_err-write_sfile-clause-told
returns-in_err-write_sfile-clause-told g c =
    let p = err_from_is_err_and c.from_residual.result c.from_residual.ensures.1 in
    rw (p.1) (λ file items is come.
    x_unwritten c.args.header.now items c.args.name.now (seen (g.D.Disk.told c.args.disk.now))
    (seen (g.D.Disk.told c.write_sfile.new.disk)) c.in_err-write_sfile.field-0.0 p.0
    (c.in_err-write_sfile.ensures.told file items is come) p.2)
