use Rattle.std.proofs.lemmas.Result.{err_from_is_err_and}
use Rattle.std.proofs.Common.{◌-◌, refl, sym, subst}
use Rattle.std.specs.Prelude.{remove}
use Rattle.std.specs.Str.{bytes_eq}
use Rattle.sccs_base.specs.Name.{q_file, x_file}
use Rattle.sccs_disk.specs.Told.{seen}
use Rattle.sccs_name_files.specs.StepFiles.{Moves, is_working}
use Rattle.sccs_name_files.specs.Touches.{TouchesOnly}
use Rattle.sccs_name_files.proofs.Touched.{only_then, only_wider}
use Rattle.sccs_crash_points.proofs.FileNames.{from_g, no_q, no_x}
use Rattle.sccs_store.proofs.Working.{moves_then, moves_wider}
use Rattle.sccs_delta.proofs.WriteLaws.{files_firm, files_ready, files_written, unwritten}
use Rattle.sccs_delta.proofs.preparing.write_files.Goals as goal

pub returns-in_err-write_x-clause-touches : goal.returns-in_err-write_x-clause-touches
returns-in_err-write_x-clause-touches g c = only_wider (bytes_eq (x_file c.args.name.now)) (is_working c.args.name.now)
    _ _ (no_x c.args.name.now) c.write_x.ensures.touches

pub returns-in_err-new_g-clause-touches : goal.returns-in_err-new_g-clause-touches
returns-in_err-new_g-clause-touches g c =
    subst (λ t. TouchesOnly (is_working c.args.name.now) (g.D.Disk.told c.args.disk.now) t)
    (sym c.remove_g.ensures.frame.same) (only_wider (bytes_eq (x_file c.args.name.now)) (is_working c.args.name.now)
    _ _ (no_x c.args.name.now) c.write_x.ensures.touches)

pub returns-clause-told : goal.returns-clause-told
returns-clause-told g c = λ bytes items is come.
    files_written c.args.name.now c.args.file.header items (remove c.args.edits (c.args.number - 1)) c.args.keep
    c.args.said.report c.args.said.message _
    (g.D.Disk.told c.args.disk.now) (g.D.Disk.told c.write_x.new.disk) (g.D.Disk.told c.remove_g.new.disk)
    (g.D.Disk.told c.drop_entry.new.disk) c.requires.spelled c.remove_g.ensures.frame.same refl
    (from_g 120 c.args.name.now c.requires.sfile) refl refl refl
    (c.in_ok-write_x.ensures.told bytes items is come) c.in_ok-new_p.ensures.moves c.in_ok-new_p.ensures.entries
    c.write_x.ensures.moves c.in_ok-new_g.ensures.leaves.chosen_is

pub returns-clause-moves : goal.returns-clause-moves
returns-clause-moves g c =
    moves_then (is_working c.args.name.now) _ _ _ (moves_wider (bytes_eq (x_file c.args.name.now))
    (is_working c.args.name.now) _ _ (no_x c.args.name.now) c.write_x.ensures.moves)
    (subst (λ t. Moves (is_working c.args.name.now) (λ v. v) (seen t) (seen (g.D.Disk.told c.drop_entry.new.disk)))
    c.remove_g.ensures.frame.same (moves_wider (bytes_eq (q_file c.args.name.now)) (is_working c.args.name.now) _ _
    (no_q c.args.name.now) c.drop_entry.ensures.moves))

pub returns-clause-needs : goal.returns-clause-needs
returns-clause-needs g c = λ z there.
    files_ready c.args.name.now (remove c.args.edits (c.args.number - 1)) c.args.keep _ (g.D.Disk.told c.args.disk.now)
    (g.D.Disk.told c.write_x.new.disk) (g.D.Disk.told c.remove_g.new.disk) (g.D.Disk.told c.drop_entry.new.disk)
    c.requires.sfile c.remove_g.ensures.frame.same refl
    c.write_x.ensures.moves c.in_ok-write_x.ensures.there c.in_ok-new_p.ensures.moves c.in_ok-new_p.ensures.entries
    c.in_ok-new_g.ensures.leaves z there

pub returns-clause-touches : goal.returns-clause-touches
returns-clause-touches g c =
    only_then (is_working c.args.name.now) _ (g.D.Disk.told c.write_x.new.disk) _
    (only_wider (bytes_eq (x_file c.args.name.now)) (is_working c.args.name.now) _ _ (no_x c.args.name.now)
    c.write_x.ensures.touches)
    (subst (λ t. TouchesOnly (is_working c.args.name.now) t (g.D.Disk.told c.drop_entry.new.disk))
    c.remove_g.ensures.frame.same (only_wider (bytes_eq (q_file c.args.name.now)) (is_working c.args.name.now) _ _
    (no_q c.args.name.now) c.drop_entry.ensures.touches))

pub returns-clause-firm : goal.returns-clause-firm
returns-clause-firm g c =
    files_firm c.args.name.now _ (g.D.Disk.told c.args.disk.now) (g.D.Disk.told c.write_x.new.disk)
    (g.D.Disk.told c.remove_g.new.disk) (g.D.Disk.told c.drop_entry.new.disk) c.remove_g.ensures.frame.same refl
    refl c.write_x.ensures.touches c.in_ok-write_x.ensures.firm c.in_ok-new_p.ensures.touches
    c.in_ok-new_p.ensures.firm

pub returns-in_err-new_p-clause-touches : goal.returns-in_err-new_p-clause-touches
returns-in_err-new_p-clause-touches g c =
    only_then (is_working c.args.name.now) _ (g.D.Disk.told c.write_x.new.disk) _
    (only_wider (bytes_eq (x_file c.args.name.now)) (is_working c.args.name.now) _ _ (no_x c.args.name.now)
    c.write_x.ensures.touches)
    (subst (λ t. TouchesOnly (is_working c.args.name.now) t (g.D.Disk.told c.drop_entry.new.disk))
    c.remove_g.ensures.frame.same (only_wider (bytes_eq (q_file c.args.name.now)) (is_working c.args.name.now) _ _
    (no_q c.args.name.now) c.drop_entry.ensures.touches))

pub returns-in_err-write_x-clause-told : goal.returns-in_err-write_x-clause-told
returns-in_err-write_x-clause-told g c =
    let p = err_from_is_err_and c.from_residual.result c.from_residual.ensures.1 in
    rw (p.1, p.2) (λ bytes items is come.
    unwritten c.args.name.now (x_file c.args.name.now) c.args.file.header items
    (remove c.args.edits (c.args.number - 1)) c.args.keep c.args.said.report c.args.said.message
    (g.D.Disk.told c.args.disk.now) (g.D.Disk.told c.write_x.new.disk) (seen (g.D.Disk.told c.args.disk.now))
    (seen (g.D.Disk.told c.write_x.new.disk)) c.in_err-write_x.field-0.0
    (c.in_err-write_x.ensures.told bytes items is come))
