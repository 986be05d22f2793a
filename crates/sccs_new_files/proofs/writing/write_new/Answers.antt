use Rattle.std.proofs.Common.{◌++◌, refl}
use Rattle.std.specs.Str.{bytes_eq}
use Rattle.sccs_base.specs.Name.{x_file}
use Rattle.sccs_disk.specs.Effects.{empty_file}
use Rattle.sccs_disk.specs.Told.{seen}
use Rattle.sccs_disk.specs.Images.{IsFirm}
use Rattle.sccs_store.proofs.Working.{err_of, firm_after, leaves_from, made_moves, made_there, moves_then, ok_map}
use Rattle.sccs_store.proofs.Working.{written_touches}
use Rattle.sccs_writers.proofs.OneFile.{only_both}
use Rattle.sccs_writers.specs.HeaderBytes.{header_bytes}
use Rattle.sccs_new_files.specs.Writing.{body_bytes}
use Rattle.sccs_store.proofs.SealedLaws.{has_digits, sealed_made}
use Rattle.sccs_new_files.proofs.writing.write_new.Goals as goal

pub append_x-requires-clause-there : goal.append_x-requires-clause-there
append_x-requires-clause-there g c = made_there (x_file c.args.name.now) empty_file (g.D.Disk.told c.args.disk.now)
    (g.D.Disk.told c.start.new.disk) c.in_ok-start.ensures.view

pub returns-in_err-sum-clause-view_err : goal.returns-in_err-sum-clause-view_err
returns-in_err-sum-clause-view_err g c = err_of c.from_residual-in_err-sum.result
    (moves_then (bytes_eq (x_file c.args.name.now)) _ _ _ (made_moves (x_file c.args.name.now) empty_file _ _
    c.in_ok-start.ensures.view) c.append_x.ensures.only.view)

pub finish_x-requires-clause-there : goal.finish_x-requires-clause-there
finish_x-requires-clause-there g c =
    has_digits (x_file c.args.name.now) (header_bytes c.args.header.now ++ body_bytes
    (g.B.NewBody.items c.args.body.now)) (g.D.Disk.told c.args.disk.now) (g.D.Disk.told c.start.new.disk)
    (g.D.Disk.told c.append_x.new.disk) c.in_ok-start.ensures.view c.in_ok-sum.ensures.appends

pub returns-clause-view : goal.returns-clause-view
returns-clause-view g c = ok_map c.finish_x.result (sealed_made (x_file c.args.name.now) c.args.header.now
    (g.B.NewBody.items c.args.body.now) (body_bytes (g.B.NewBody.items c.args.body.now)) c.in_ok-sum.sum _
    (seen (g.D.Disk.told c.start.new.disk)) (seen (g.D.Disk.told c.append_x.new.disk)) _ refl c.in_ok-start.ensures.view
    c.in_ok-sum.ensures.appends c.in_ok-sum.ensures.sum) c.finish_x.ensures.view

pub returns-clause-view_err : goal.returns-clause-view_err
returns-clause-view_err g c =
    err_of c.finish_x.result (moves_then (bytes_eq (x_file c.args.name.now)) _ _ _
    (moves_then (bytes_eq (x_file c.args.name.now)) _ _ _ (made_moves (x_file c.args.name.now) empty_file _ _
    c.in_ok-start.ensures.view) c.append_x.ensures.only.view) c.finish_x.ensures.only.view)

pub returns-in_err-sum-clause-touches : goal.returns-in_err-sum-clause-touches
returns-in_err-sum-clause-touches g c =
    written_touches (x_file c.args.name.now) (bytes_eq (x_file c.args.name.now)) _ (g.D.Disk.told c.start.new.disk) _
    (g.met.D.Disk.sane c.start.new.disk) (λ k h. h) c.start.ensures.touches c.in_ok-start.ensures.own
    c.append_x.ensures.only

pub returns-clause-touches : goal.returns-clause-touches
returns-clause-touches g c =
    written_touches (x_file c.args.name.now) (bytes_eq (x_file c.args.name.now)) _ (g.D.Disk.told c.start.new.disk) _
    (g.met.D.Disk.sane c.start.new.disk) (λ k h. h) c.start.ensures.touches c.in_ok-start.ensures.own
    (only_both (x_file c.args.name.now) _ (g.D.Disk.told c.append_x.new.disk) _ c.append_x.ensures.only
    c.finish_x.ensures.only)

pub returns-clause-firm : goal.returns-clause-firm
returns-clause-firm g c =
    ok_map c.finish_x.result (λ firm. leaves_from (IsFirm (x_file c.args.name.now)) (bytes_eq (x_file c.args.name.now))
    _ (g.D.Disk.told c.start.new.disk) _ c.start.ensures.touches (firm_after (x_file c.args.name.now) _
    (g.D.Disk.told c.append_x.new.disk) _ c.append_x.ensures.only firm)) c.finish_x.ensures.firm
