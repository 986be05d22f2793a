use Rattle.std.proofs.lemmas.Result.{err_from_is_err_and}
use Rattle.std.proofs.Common.{refl, ap}
use Rattle.sccs_disk.specs.Told.{seen}
use Rattle.sccs_admin.proofs.PrepareLaws.{find_fails, found_prepares, text_quiet, text_ready, text_speaks, there_still}
use Rattle.std.specs.Str.{bytes_eq}
use Rattle.sccs_base.specs.Name.{x_file}
use Rattle.sccs_name_files.specs.StepFiles.{is_working}
use Rattle.sccs_name_files.proofs.Touched.{only_wider}
use Rattle.sccs_crash_points.proofs.FileNames.{no_x}
use Rattle.sccs_store.proofs.Working.{same_touches, touches_from}
use Rattle.sccs_admin.proofs.StopLaws.{text_settles}
use Rattle.sccs_admin.proofs.admins.AdminChange.prepare.Goals as goal
use Rattle.sccs_changes.proofs.StopLaws.{firm_still}

pub returns-clause-prepares : goal.returns-clause-prepares
returns-clause-prepares g c = λ err.
    found_prepares c.args.self.now.words.now c.args.self.now.stamp.now c.write_texts.result c.in_ok-texts.texts
    c.args.name.now _ _ (seen (g.D.Disk.told c.find_texts.new.disk)) _ _ err c.requires.sfile
    (ap seen c.find_texts.ensures.same)
    c.in_ok-texts.ensures.finds
    c.write_texts.ensures.writes

pub returns-clause-needs : goal.returns-clause-needs
returns-clause-needs g c = text_ready c.args.self.now.words.now c.args.self.now.stamp.now c.write_texts.result _
    c.args.name.now (g.D.Disk.told c.find_texts.new.disk) _
    (there_still _ _ _ c.find_texts.ensures.same c.requires.locked) c.write_texts.ensures.writes

pub returns-clause-speaks : goal.returns-clause-speaks
returns-clause-speaks g c = text_speaks c.args.self.now.words.now c.args.self.now.stamp.now c.write_texts.result _
    c.args.name.now _ _ c.write_texts.ensures.writes c.write_texts.ensures.checks

pub returns-clause-silent : goal.returns-clause-silent
returns-clause-silent g c = λ silent. (
  refl,
  text_quiet c.args.self.now.words.now c.args.self.now.stamp.now
      c.write_texts.result _ c.args.name.now _ _ c.write_texts.ensures.writes,
)

pub returns-in_err-texts-clause-prepares : goal.returns-in_err-texts-clause-prepares
returns-in_err-texts-clause-prepares g c =
    let p = err_from_is_err_and c.from_residual.result c.from_residual.ensures.1 in
    rw (p.1, p.2) (λ err. find_fails c.args.self.now.words.now c.args.self.now.stamp.now
    c.in_err-texts.field-0.0 c.args.name.now _ _ _ _ err c.requires.sfile (ap seen c.find_texts.ensures.same)
    c.in_err-texts.ensures.finds)

pub returns-clause-touches : goal.returns-clause-touches
returns-clause-touches g c =
    touches_from (is_working c.args.name.now) _ (g.D.Disk.told c.find_texts.new.disk) _ c.find_texts.ensures.same
    (only_wider (bytes_eq (x_file c.args.name.now)) (is_working c.args.name.now) _ _ (no_x c.args.name.now)
    c.write_texts.ensures.touches)

pub returns-clause-firm : goal.returns-clause-firm
returns-clause-firm g c = firm_still c.write_texts.result c.args.name.now _ (g.D.Disk.told c.find_texts.new.disk)
    _ c.find_texts.ensures.same c.write_texts.ensures.firm

pub returns-clause-entries : goal.returns-clause-entries
returns-clause-entries g c =
    text_settles c.args.self.now.words.now c.args.self.now.stamp.now c.write_texts.result _ c.args.name.now
    (seen (g.D.Disk.told c.args.disk.now)) (g.D.Disk.told c.find_texts.new.disk) _ c.requires.sfile
    (ap seen c.find_texts.ensures.same) c.in_ok-texts.ensures.free c.write_texts.ensures.writes

pub returns-in_err-texts-clause-touches : goal.returns-in_err-texts-clause-touches
returns-in_err-texts-clause-touches g c = same_touches (is_working c.args.name.now) _ _ c.find_texts.ensures.same
