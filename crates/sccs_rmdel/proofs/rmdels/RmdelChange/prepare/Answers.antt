use Rattle.std.proofs.lemmas.Result.{err_from_is_err_and}
use Rattle.std.proofs.Common.{ap, refl}
use Rattle.std.specs.Str.{bytes_eq}
use Rattle.sccs_base.specs.Name.{x_file}
use Rattle.sccs_disk.specs.Told.{seen}
use Rattle.sccs_name_files.specs.StepFiles.{is_working}
use Rattle.sccs_name_files.proofs.Touched.{only_wider}
use Rattle.sccs_crash_points.proofs.FileNames.{no_x}
use Rattle.sccs_store.proofs.Working.{same_touches, touches_from}
use Rattle.sccs_changes.proofs.StopLaws.{firm_still}
use Rattle.sccs_rmdel.proofs.PrepareLaws.{removal_quiet, removal_ready, removal_speaks, removed, unread, unremovable}
use Rattle.sccs_rmdel.proofs.StopLaws.{removal_settles}
use Rattle.sccs_rmdel.proofs.rmdels.RmdelChange.prepare.Goals as goal

pub returns-in_err-found-clause-prepares : goal.returns-in_err-found-clause-prepares
returns-in_err-found-clause-prepares g c =
    let p = err_from_is_err_and c.from_residual.result c.from_residual.ensures.1 in
    rw (p.1, p.2) (λ err.
    unread c.args.self.now.sid.now c.args.self.now.stamp.now c.in_err-found.field-0.0 c.args.name.now _ _ _ _ err
    c.requires.sfile (ap seen c.read_pending.ensures.frame.same) c.in_err-found.ensures.told)

pub returns-in_err-found-clause-touches : goal.returns-in_err-found-clause-touches
returns-in_err-found-clause-touches g c = same_touches (is_working c.args.name.now) _ _
    c.read_pending.ensures.frame.same

pub returns-clause-prepares : goal.returns-clause-prepares
returns-clause-prepares g c = λ err.
    removed c.args.self.now.sid.now c.args.self.now.stamp.now c.args.name.now c.in_ok-found.found c.in_ok-serial.serial
    c.write_without.result _ (seen (g.D.Disk.told c.args.disk.now)) (g.D.Disk.told c.read_pending.new.disk)
    (g.D.Disk.told c.write_without.new.disk) _ err
    c.requires.sfile (ap seen c.read_pending.ensures.frame.same) c.in_ok-found.ensures.told c.in_ok-found.ensures.placed
    c.in_ok-serial.ensures.finds c.write_without.ensures.moves c.write_without.ensures.quiet
    c.write_without.ensures.told

pub returns-clause-needs : goal.returns-clause-needs
returns-clause-needs g c =
    removal_ready c.args.name.now c.write_without.result (g.D.Disk.told c.args.disk.now)
    (g.D.Disk.told c.read_pending.new.disk) (g.D.Disk.told c.write_without.new.disk)
    c.read_pending.ensures.frame.same c.requires.locked c.write_without.ensures.moves c.write_without.ensures.there
    c.write_without.ensures.quiet

pub returns-clause-touches : goal.returns-clause-touches
returns-clause-touches g c =
    touches_from (is_working c.args.name.now) _ (g.D.Disk.told c.read_pending.new.disk) _
    c.read_pending.ensures.frame.same (only_wider (bytes_eq (x_file c.args.name.now)) (is_working c.args.name.now) _
    _ (no_x c.args.name.now) c.write_without.ensures.touches)

pub returns-clause-firm : goal.returns-clause-firm
returns-clause-firm g c = firm_still c.write_without.result c.args.name.now _ (g.D.Disk.told c.read_pending.new.disk) _
    c.read_pending.ensures.frame.same c.write_without.ensures.firm

pub returns-clause-entries : goal.returns-clause-entries
returns-clause-entries g c =
    removal_settles c.args.self.now.sid.now c.args.self.now.stamp.now c.args.name.now c.in_ok-found.found
    c.in_ok-serial.serial c.write_without.result (seen (g.D.Disk.told c.args.disk.now))
    (g.D.Disk.told c.read_pending.new.disk) (g.D.Disk.told c.write_without.new.disk)
    c.requires.sfile (ap seen c.read_pending.ensures.frame.same) c.in_ok-found.ensures.told c.in_ok-found.ensures.placed
    c.in_ok-found.ensures.rules c.in_ok-found.ensures.spelled c.in_ok-found.ensures.agrees
    c.in_ok-serial.ensures.finds c.write_without.ensures.moves c.write_without.ensures.quiet
    c.write_without.ensures.told

pub returns-clause-speaks : goal.returns-clause-speaks
returns-clause-speaks g c = removal_speaks c.write_without.result c.write_without.ensures.quiet
    c.write_without.ensures.checks

pub returns-clause-silent : goal.returns-clause-silent
returns-clause-silent g c = λ silent. (refl, removal_quiet c.write_without.result c.write_without.ensures.quiet)

pub returns-in_err-serial-clause-prepares : goal.returns-in_err-serial-clause-prepares
returns-in_err-serial-clause-prepares g c =
    let p = err_from_is_err_and c.from_residual-in_err-serial.result c.from_residual-in_err-serial.ensures.1 in
    rw (p.1, p.2) (λ err.
    unremovable c.args.self.now.sid.now c.args.self.now.stamp.now c.in_err-serial.field-0.0 c.args.name.now
    c.in_ok-found.found _ _ _ _ err c.requires.sfile (ap seen c.read_pending.ensures.frame.same)
    c.in_ok-found.ensures.told c.in_err-serial.ensures.finds)

pub returns-in_err-serial-clause-touches : goal.returns-in_err-serial-clause-touches
returns-in_err-serial-clause-touches g c = same_touches (is_working c.args.name.now) _ _
    c.read_pending.ensures.frame.same
