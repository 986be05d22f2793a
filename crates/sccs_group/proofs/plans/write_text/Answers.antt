use Rattle.std.specs.Str.{bytes_eq}
use Rattle.sccs_disk.specs.Effects.{appended, empty_file}
use Rattle.sccs_disk.specs.Images.{IsFirm}
use Rattle.sccs_disk.specs.Told.{seen}
use Rattle.sccs_store.proofs.Working.{err_of, leaves_from, made_and_changed, made_moves, made_there, moves_then, ok_map}
use Rattle.sccs_store.proofs.Working.{written_touches}
use Rattle.sccs_group.proofs.plans.write_text.Goals as goal

pub append_text-requires : goal.append_text-requires
append_text-requires g c = made_there c.args.name.now empty_file (g.D.Disk.told c.args.disk.now)
    (g.D.Disk.told c.renew.new.disk) c.in_ok-renew.ensures.view

pub returns-clause-view : goal.returns-clause-view
returns-clause-view g c =
    ok_map c.append_text.result (made_and_changed c.args.name.now (appended c.args.text.now) empty_file _
    (seen (g.D.Disk.told c.renew.new.disk)) _ c.in_ok-renew.ensures.view) c.append_text.ensures.view

pub returns-clause-view_err : goal.returns-clause-view_err
returns-clause-view_err g c =
    err_of c.append_text.result (moves_then (bytes_eq c.args.name.now) _ (seen (g.D.Disk.told c.renew.new.disk)) _
    (made_moves c.args.name.now empty_file _ _ c.in_ok-renew.ensures.view) c.append_text.ensures.only.view)

pub returns-clause-firm : goal.returns-clause-firm
returns-clause-firm g c =
    ok_map c.append_text.result (leaves_from (IsFirm c.args.name.now) (bytes_eq c.args.name.now) _
    (g.D.Disk.told c.renew.new.disk) _ c.renew.ensures.touches) c.append_text.ensures.firm

pub returns-clause-touches : goal.returns-clause-touches
returns-clause-touches g c =
    written_touches c.args.name.now (bytes_eq c.args.name.now) _ (g.D.Disk.told c.renew.new.disk) _
    (g.met.D.Disk.sane c.renew.new.disk) (λ k h. h) c.renew.ensures.touches c.in_ok-renew.ensures.own
    c.append_text.ensures.only
