use Rattle.std.proofs.lemmas.Result.{err_from_is_err_and}
use Rattle.std.proofs.Common.{refl}
use Rattle.std.specs.Str.{bytes_eq}
use Rattle.sccs_base.specs.Name.{y_file}
use Rattle.sccs_disk.specs.Effects.{empty_file}
use Rattle.sccs_disk.specs.Images.{IsFirm}
use Rattle.sccs_disk.specs.Told.{seen}
use Rattle.sccs_history.specs.Body.{lines_of}
use Rattle.sccs_crash_points.proofs.FileNames.{from_s}
use Rattle.sccs_store.proofs.Working.{firm_after, leaves_from, made_moves, made_there, moves_then, written_touches}
use Rattle.sccs_keywords.specs.Forms.{line_form}
use Rattle.sccs_versions.specs.Coming.{shown}
use Rattle.sccs_writers.proofs.OneFile.{only_both}
use Rattle.sccs_printing.specs.Printing.{version_text}
use Rattle.sccs_printing.proofs.TurnLaws.{body_stays}
use Rattle.sccs_printing.proofs.WholeLaws.{outer_cut}
use Rattle.sccs_printing.proofs.YLaws.{y_made, y_whole}
use Rattle.sccs_printing.proofs.y_texts.make_y.Goals as goal

pub append_y-requires-clause-there : goal.append_y-requires-clause-there
append_y-requires-clause-there g c = made_there (y_file c.args.name.now) empty_file (g.D.Disk.told c.args.disk.now)
    (g.D.Disk.told c.start.new.disk) c.in_default.ensures.view

pub returns-in_err-shown-clause-view : goal.returns-in_err-shown-clause-view
returns-in_err-shown-clause-view g c =
    let p = err_from_is_err_and c.from_residual.result c.from_residual.ensures.1 in
    rw (p.1, p.2) (λ file items is.
    outer_cut (y_file c.args.name.now) (version_text (line_form c.args.form.now) c.args.front.now.header.records
    (shown c.args.set.now (lines_of items))) c.in_err-shown.field-0.0 _ _ (c.in_err-shown.ensures.appends file items
    (body_stays (y_file c.args.name.now) c.args.name.now file c.args.set.now c.args.front.now items _ _
    (from_s 121 c.args.name.now c.requires.sfile refl) (made_moves (y_file c.args.name.now) empty_file _ _
    c.in_default.ensures.view) is)))

pub returns-in_err-shown-clause-moves : goal.returns-in_err-shown-clause-moves
returns-in_err-shown-clause-moves g c = moves_then (bytes_eq (y_file c.args.name.now)) _ _ _
    (made_moves (y_file c.args.name.now) empty_file _ _ c.in_default.ensures.view)
    c.in_err-shown.ensures.frame.only.view

pub returns-in_err-shown-clause-touches : goal.returns-in_err-shown-clause-touches
returns-in_err-shown-clause-touches g c =
    written_touches (y_file c.args.name.now) (bytes_eq (y_file c.args.name.now)) _ (g.D.Disk.told c.start.new.disk) _
    (g.met.D.Disk.sane c.start.new.disk) (λ k h. h) c.start.ensures.touches c.in_default.ensures.own
    c.in_err-shown.ensures.frame.only

pub finish_y-requires-clause-there : goal.finish_y-requires-clause-there
finish_y-requires-clause-there g c = c.in_ok-shown.ensures.frame.only.there
    (made_there (y_file c.args.name.now) empty_file (g.D.Disk.told c.args.disk.now) (g.D.Disk.told c.start.new.disk)
    c.in_default.ensures.view)

pub returns-in-Ok-clause-view : goal.returns-in-Ok-clause-view
returns-in-Ok-clause-view g c = λ file items is.
    let body = body_stays (y_file c.args.name.now) c.args.name.now file c.args.set.now c.args.front.now items _ _
    (from_s 121 c.args.name.now c.requires.sfile refl) (made_moves (y_file c.args.name.now) empty_file _ _
    c.in_default.ensures.view) is in (
      y_made (y_file c.args.name.now) c.args.mode
          (version_text (line_form c.args.form.now) c.args.front.now.header.records
          (shown c.args.set.now (lines_of items))) _ (seen (g.D.Disk.told c.start.new.disk))
          (seen (g.D.Disk.told c.append_y.new.disk)) _ c.in_default.ensures.view c.in_ok-shown.ensures.frame.only.view
          (c.in_ok-shown.ensures.appends file items body) c.in_ok-shown.ensures.frame.mark c.in-Ok.ensures.view,
      c.in_ok-shown.ensures.found file items body,
    )

pub returns-in-Ok-clause-moves : goal.returns-in-Ok-clause-moves
returns-in-Ok-clause-moves g c = moves_then (bytes_eq (y_file c.args.name.now)) _
    (seen (g.D.Disk.told c.append_y.new.disk)) _ (moves_then (bytes_eq (y_file c.args.name.now)) _
    (seen (g.D.Disk.told c.start.new.disk)) _ (made_moves (y_file c.args.name.now) empty_file _ _
    c.in_default.ensures.view) c.in_ok-shown.ensures.frame.only.view) c.finish_y.ensures.only.view

pub returns-in-Ok-clause-there : goal.returns-in-Ok-clause-there
returns-in-Ok-clause-there g c = c.finish_y.ensures.only.there (c.in_ok-shown.ensures.frame.only.there
    (made_there (y_file c.args.name.now) empty_file (g.D.Disk.told c.args.disk.now) (g.D.Disk.told c.start.new.disk)
    c.in_default.ensures.view))

pub returns-in-Ok-clause-touches : goal.returns-in-Ok-clause-touches
returns-in-Ok-clause-touches g c =
    written_touches (y_file c.args.name.now) (bytes_eq (y_file c.args.name.now)) _ (g.D.Disk.told c.start.new.disk) _
    (g.met.D.Disk.sane c.start.new.disk) (λ k h. h) c.start.ensures.touches c.in_default.ensures.own
    (only_both (y_file c.args.name.now) _ (g.D.Disk.told c.append_y.new.disk) _ c.in_ok-shown.ensures.frame.only
    c.finish_y.ensures.only)

pub returns-in-Ok-clause-firm : goal.returns-in-Ok-clause-firm
returns-in-Ok-clause-firm g c =
    leaves_from (IsFirm (y_file c.args.name.now)) (bytes_eq (y_file c.args.name.now)) _ (g.D.Disk.told c.start.new.disk)
    _ c.start.ensures.touches (firm_after (y_file c.args.name.now) _ (g.D.Disk.told c.append_y.new.disk) _
    c.in_ok-shown.ensures.frame.only c.in-Ok.ensures.firm)

pub returns-in-Ok-clause-whole : goal.returns-in-Ok-clause-whole
returns-in-Ok-clause-whole g c = λ zero.
    y_whole (y_file c.args.name.now) c.args.mode (line_form c.args.form.now) c.args.front.now.header.records
    c.args.set.now c.in_ok-shown.shown _ (seen (g.D.Disk.told c.start.new.disk))
    (seen (g.D.Disk.told c.append_y.new.disk)) _ c.in_default.ensures.view c.in_ok-shown.ensures.frame.only.view
    c.in_ok-shown.ensures.frame.mark c.in-Ok.ensures.view (c.in_ok-shown.ensures.whole zero)

pub returns-in-Err-finish_y-clause-moves : goal.returns-in-Err-finish_y-clause-moves
returns-in-Err-finish_y-clause-moves g c = moves_then (bytes_eq (y_file c.args.name.now)) _
    (seen (g.D.Disk.told c.append_y.new.disk)) _ (moves_then (bytes_eq (y_file c.args.name.now)) _
    (seen (g.D.Disk.told c.start.new.disk)) _ (made_moves (y_file c.args.name.now) empty_file _ _
    c.in_default.ensures.view) c.in_ok-shown.ensures.frame.only.view) c.finish_y.ensures.only.view

pub returns-in-Err-finish_y-clause-touches : goal.returns-in-Err-finish_y-clause-touches
returns-in-Err-finish_y-clause-touches g c =
    written_touches (y_file c.args.name.now) (bytes_eq (y_file c.args.name.now)) _ (g.D.Disk.told c.start.new.disk) _
    (g.met.D.Disk.sane c.start.new.disk) (λ k h. h) c.start.ensures.touches c.in_default.ensures.own
    (only_both (y_file c.args.name.now) _ (g.D.Disk.told c.append_y.new.disk) _ c.in_ok-shown.ensures.frame.only
    c.finish_y.ensures.only)
