use Rattle.std.specs.Str.{bytes_eq}
use Rattle.sccs_base.specs.Name.{y_file}
use Rattle.sccs_disk.specs.Effects.{appended, empty_file}
use Rattle.sccs_disk.specs.Told.{seen}
use Rattle.sccs_store.specs.Finished.{finished}
use Rattle.sccs_store.specs.declared.modes.Mode.TheVariants.{Writable}
use Rattle.sccs_store.proofs.MadeWhole.{made}
use Rattle.sccs_store.proofs.Working.{made_and_changed, made_moves, made_there, moves_then, written_touches}
use Rattle.sccs_writers.proofs.OneFile.{only_both}
use Rattle.sccs_summary.specs.Summaries.{choice_of, summary_text}
use Rattle.sccs_summary.proofs.files.make_y.Goals as goal

pub append_y-requires-clause-there : goal.append_y-requires-clause-there
append_y-requires-clause-there g c = made_there (y_file c.args.name.now) empty_file (g.D.Disk.told c.args.disk.now)
    (g.D.Disk.told c.start.new.disk) c.in_ok-start.ensures.view

pub returns-in_err-append_y-clause-moves : goal.returns-in_err-append_y-clause-moves
returns-in_err-append_y-clause-moves g c = moves_then (bytes_eq (y_file c.args.name.now)) _
    (seen (g.D.Disk.told c.start.new.disk)) _ (made_moves (y_file c.args.name.now) empty_file _ _
    c.in_ok-start.ensures.view) c.append_y.ensures.only.view

pub returns-in_err-append_y-clause-touches : goal.returns-in_err-append_y-clause-touches
returns-in_err-append_y-clause-touches g c =
    written_touches (y_file c.args.name.now) (bytes_eq (y_file c.args.name.now)) _ (g.D.Disk.told c.start.new.disk) _
    (g.met.D.Disk.sane c.start.new.disk) (λ k h. h) c.start.ensures.touches c.in_ok-start.ensures.own
    c.append_y.ensures.only

pub finish_y-requires-clause-there : goal.finish_y-requires-clause-there
finish_y-requires-clause-there g c = c.append_y.ensures.only.there (made_there (y_file c.args.name.now) empty_file
    (g.D.Disk.told c.args.disk.now) (g.D.Disk.told c.start.new.disk) c.in_ok-start.ensures.view)

pub returns-in-Ok-clause-view : goal.returns-in-Ok-clause-view
returns-in-Ok-clause-view g c =
    let text = summary_text (choice_of c.args.choices) c.args.records.now in
    made_and_changed (y_file c.args.name.now) (finished Writable) (appended text empty_file) _
    (seen (g.D.Disk.told c.append_y.new.disk)) _
    (made_and_changed (y_file c.args.name.now) (appended text) empty_file _ (seen (g.D.Disk.told c.start.new.disk)) _
    c.in_ok-start.ensures.view c.in_ok-append_y.ensures.view) c.in-Ok.ensures.view

pub returns-in-Ok-clause-moves : goal.returns-in-Ok-clause-moves
returns-in-Ok-clause-moves g c =
    moves_then (bytes_eq (y_file c.args.name.now)) _ (seen (g.D.Disk.told c.append_y.new.disk)) _
    (moves_then (bytes_eq (y_file c.args.name.now)) _ (seen (g.D.Disk.told c.start.new.disk)) _
    (made_moves (y_file c.args.name.now) empty_file _ _ c.in_ok-start.ensures.view) c.append_y.ensures.only.view)
    c.finish_y.ensures.only.view

pub returns-in-Ok-clause-touches : goal.returns-in-Ok-clause-touches
returns-in-Ok-clause-touches g c =
    written_touches (y_file c.args.name.now) (bytes_eq (y_file c.args.name.now)) _ (g.D.Disk.told c.start.new.disk) _
    (g.met.D.Disk.sane c.start.new.disk) (λ k h. h) c.start.ensures.touches c.in_ok-start.ensures.own
    (only_both (y_file c.args.name.now) _ (g.D.Disk.told c.append_y.new.disk) _ c.append_y.ensures.only
    c.finish_y.ensures.only)

pub returns-in-Ok-clause-made : goal.returns-in-Ok-clause-made
returns-in-Ok-clause-made g c =
    made c.args.name.now (g.D.Disk.told c.args.disk.now) (g.D.Disk.told c.start.new.disk)
    (g.D.Disk.told c.append_y.new.disk) (g.D.Disk.told c.finish_y.new.disk) (g.met.D.Disk.sane c.start.new.disk)
    c.start.ensures.touches c.in_ok-start.ensures.own c.append_y.ensures.only c.finish_y.ensures.only
    c.in-Ok.ensures.firm

pub returns-in-Err-clause-moves : goal.returns-in-Err-clause-moves
returns-in-Err-clause-moves g c =
    moves_then (bytes_eq (y_file c.args.name.now)) _ (seen (g.D.Disk.told c.append_y.new.disk)) _
    (moves_then (bytes_eq (y_file c.args.name.now)) _ (seen (g.D.Disk.told c.start.new.disk)) _
    (made_moves (y_file c.args.name.now) empty_file _ _ c.in_ok-start.ensures.view) c.append_y.ensures.only.view)
    c.finish_y.ensures.only.view

pub returns-in-Err-clause-touches : goal.returns-in-Err-clause-touches
returns-in-Err-clause-touches g c =
    written_touches (y_file c.args.name.now) (bytes_eq (y_file c.args.name.now)) _ (g.D.Disk.told c.start.new.disk) _
    (g.met.D.Disk.sane c.start.new.disk) (λ k h. h) c.start.ensures.touches c.in_ok-start.ensures.own
    (only_both (y_file c.args.name.now) _ (g.D.Disk.told c.append_y.new.disk) _ c.append_y.ensures.only
    c.finish_y.ensures.only)
