use Rattle.std.proofs.lemmas.Result.{err_from_is_err_and}
use Rattle.sccs_base.specs.Name.{x_file}
use Rattle.sccs_disk.specs.Told.{seen}
use Rattle.sccs_admin.proofs.StopLaws.{new_firm}
use Rattle.sccs_alter.proofs.WriteLaws.{frame_unwritten, frame_written, x_unwritten, x_written}
use Rattle.sccs_alter.proofs.alters.write_header.Goals as goal

pub returns-clause-told : goal.returns-clause-told
returns-clause-told g c = λ file items is comes.
    x_written c.args.header.now items c.args.name.now (seen (g.D.Disk.told c.args.disk.now))
    (seen (g.D.Disk.told c.write_sfile.new.disk)) tt c.prepared.result (c.in_ok-write_sfile.ensures.told file items is
    comes)

pub returns-clause-firm : goal.returns-clause-firm
returns-clause-firm g c = new_firm c.args.name.now c.prepared.result _ _ c.prepared.ensures
    c.in_ok-write_sfile.ensures.frame.firm

pub returns-clause-frame : goal.returns-clause-frame
returns-clause-frame g c = frame_written (x_file c.args.name.now) _ _ _ _ tt c.prepared.result
    c.in_ok-write_sfile.ensures.frame

pub returns-in_err-write_sfile-clause-told : goal.returns-in_err-write_sfile-clause-told
returns-in_err-write_sfile-clause-told g c =
    let p = err_from_is_err_and c.from_residual.result c.from_residual.ensures.1 in
    rw (p.1) (λ file items is comes.
    x_unwritten c.args.header.now items c.args.name.now (seen (g.D.Disk.told c.args.disk.now))
    (seen (g.D.Disk.told c.write_sfile.new.disk)) c.in_err-write_sfile.field-0.0 p.0
    (c.in_err-write_sfile.ensures.told file items is comes) p.2)

pub returns-in_err-write_sfile-clause-frame : goal.returns-in_err-write_sfile-clause-frame
returns-in_err-write_sfile-clause-frame g c =
    let p = err_from_is_err_and c.from_residual.result c.from_residual.ensures.1 in
    rw (p.1) (frame_unwritten (x_file c.args.name.now) _ _ _ _ c.in_err-write_sfile.field-0.0 p.0
    p.2 c.in_err-write_sfile.ensures.frame)
