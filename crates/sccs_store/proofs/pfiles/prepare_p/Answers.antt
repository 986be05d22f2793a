use Rattle.std.specs.Str.{bytes_eq}
use Rattle.sccs_base.specs.Name.{q_file}
use Rattle.sccs_disk.specs.Effects.{appended, empty_file}
use Rattle.sccs_disk.specs.Images.{IsFirm}
use Rattle.sccs_disk.specs.Told.{seen}
use Rattle.sccs_pfile.specs.Written.{edits_text}
use Rattle.sccs_store.proofs.Working.{err_of, leaves_from, made_and_changed, made_moves, made_there, moves_then, ok_map}
use Rattle.sccs_store.proofs.Working.{written_touches}
use Rattle.sccs_store.proofs.pfiles.prepare_p.Goals as goal

pub append_q-requires-clause-there : goal.append_q-requires-clause-there
append_q-requires-clause-there g c = made_there (q_file c.args.name.now) empty_file (g.D.Disk.told c.args.disk.now)
    (g.D.Disk.told c.start.new.disk) c.in_ok-start.ensures.view

pub returns-clause-view : goal.returns-clause-view
returns-clause-view g c =
    ok_map c.append_q.result (made_and_changed (q_file c.args.name.now) (appended (edits_text c.args.edits.now))
    empty_file _ (seen (g.D.Disk.told c.start.new.disk)) _ c.in_ok-start.ensures.view) c.append_q.ensures.view

pub returns-clause-view_err : goal.returns-clause-view_err
returns-clause-view_err g c =
    err_of c.append_q.result (moves_then (bytes_eq (q_file c.args.name.now)) _ (seen (g.D.Disk.told c.start.new.disk)) _
    (made_moves (q_file c.args.name.now) empty_file _ _ c.in_ok-start.ensures.view) c.append_q.ensures.only.view)

pub returns-clause-firm : goal.returns-clause-firm
returns-clause-firm g c =
    ok_map c.append_q.result (leaves_from (IsFirm (q_file c.args.name.now)) (bytes_eq (q_file c.args.name.now)) _
    (g.D.Disk.told c.start.new.disk) _ c.start.ensures.touches) c.append_q.ensures.firm

pub returns-clause-touches : goal.returns-clause-touches
returns-clause-touches g c =
    written_touches (q_file c.args.name.now) (bytes_eq (q_file c.args.name.now)) _ (g.D.Disk.told c.start.new.disk) _
    (g.met.D.Disk.sane c.start.new.disk) (λ k h. h) c.start.ensures.touches c.in_ok-start.ensures.own
    c.append_q.ensures.only
