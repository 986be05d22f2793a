use Rattle.std.proofs.lemmas.Result.{err_from_is_err_and}
use Rattle.std.proofs.Common.{ap}
use Rattle.std.specs.Str.{bytes_eq}
use Rattle.sccs_base.specs.Name.{x_file}
use Rattle.sccs_disk.specs.Told.{seen}
use Rattle.sccs_name_files.specs.StepFiles.{is_working}
use Rattle.sccs_name_files.proofs.Touched.{only_wider}
use Rattle.sccs_crash_points.proofs.FileNames.{no_x}
use Rattle.sccs_store.proofs.Working.{same_touches, touches_from}
use Rattle.sccs_alter.proofs.CdcPrepareLaws.{read_fails, read_prepares, read_settles, read_speaks}
use Rattle.sccs_alter.proofs.cdcs.CdcChange.prepare.Goals as goal

pub returns-clause-prepares : goal.returns-clause-prepares
returns-clause-prepares g c = λ err.
    read_prepares c.args.self.now.words.now c.args.self.now.stamp.now c.write_read.result c.args.name.now _
    c.in_ok-front.front (seen (g.D.Disk.told c.args.disk.now)) (g.D.Disk.told c.read_sfile.new.disk)
    (g.D.Disk.told c.write_read.new.disk) _ err c.requires.sfile
    (ap seen c.read_sfile.ensures.frame.same) c.in_ok-front.ensures.told c.write_read.ensures.new
    c.write_read.ensures.frame.moves c.write_read.ensures.told

pub returns-clause-touches : goal.returns-clause-touches
returns-clause-touches g c =
    touches_from (is_working c.args.name.now) _ (g.D.Disk.told c.read_sfile.new.disk) _ c.read_sfile.ensures.frame.same
    (only_wider (bytes_eq (x_file c.args.name.now)) (is_working c.args.name.now) _ _ (no_x c.args.name.now)
    c.write_read.ensures.frame.touches)

pub returns-clause-entries : goal.returns-clause-entries
returns-clause-entries g c =
    read_settles c.args.self.now.words.now c.args.self.now.stamp.now c.write_read.result c.args.name.now
    c.in_ok-front.front (seen (g.D.Disk.told c.args.disk.now)) (g.D.Disk.told c.read_sfile.new.disk)
    (g.D.Disk.told c.write_read.new.disk) c.requires.sfile
    (ap seen c.read_sfile.ensures.frame.same) c.in_ok-front.ensures.rules c.in_ok-front.ensures.spelled
    c.in_ok-front.ensures.told c.write_read.ensures.new c.write_read.ensures.lines c.write_read.ensures.frame.moves
    c.write_read.ensures.told

pub returns-clause-speaks : goal.returns-clause-speaks
returns-clause-speaks g c = read_speaks c.write_read.result c.write_read.ensures.new c.write_read.ensures.checks

pub returns-in_err-front-clause-prepares : goal.returns-in_err-front-clause-prepares
returns-in_err-front-clause-prepares g c =
    let p = err_from_is_err_and c.from_residual.result c.from_residual.ensures.1 in
    rw (p.1, p.2) (λ err.
    read_fails c.args.self.now.words.now c.args.self.now.stamp.now c.in_err-front.field-0.0 c.args.name.now _
    (seen (g.D.Disk.told c.args.disk.now)) (seen (g.D.Disk.told c.read_sfile.new.disk)) _ err c.requires.sfile
    (ap seen c.read_sfile.ensures.frame.same) c.in_err-front.ensures.told)

pub returns-in_err-front-clause-touches : goal.returns-in_err-front-clause-touches
returns-in_err-front-clause-touches g c = same_touches (is_working c.args.name.now) _ _ c.read_sfile.ensures.frame.same
