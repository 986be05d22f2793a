use Rattle.std.specs.Str.{bytes_eq}
use Rattle.sccs_disk.specs.Images.{IsOwn}
use Rattle.sccs_name_files.proofs.Touched.{only_then}
use Rattle.sccs_store.proofs.Working.{err_map, leaves_from, made_again, moves_then, ok_map, without_moves}
use Rattle.sccs_store.proofs.working_files.renew.Goals as goal

pub returns-in-Ok-clause-view : goal.returns-in-Ok-clause-view
returns-in-Ok-clause-view g c = ok_map c.make.result (made_again c.args.name.now _ _ _ c.in-Ok.ensures.view)
    c.make.ensures.view

pub returns-in-Ok-clause-view_err : goal.returns-in-Ok-clause-view_err
returns-in-Ok-clause-view_err g c =
    err_map c.make.result (moves_then (bytes_eq c.args.name.now) _ _ _
    (without_moves c.args.name.now _ _ c.in-Ok.ensures.view)) c.make.ensures.view_err

pub returns-in-Ok-clause-touches : goal.returns-in-Ok-clause-touches
returns-in-Ok-clause-touches g c = only_then (bytes_eq c.args.name.now) _ (g.D.Disk.told c.clear.new.disk) _
    c.clear.ensures.touches c.make.ensures.touches

pub returns-in-Ok-clause-own : goal.returns-in-Ok-clause-own
returns-in-Ok-clause-own g c =
    ok_map c.make.result (leaves_from (IsOwn c.args.name.now) (bytes_eq c.args.name.now) _
    (g.D.Disk.told c.clear.new.disk) _ c.clear.ensures.touches) c.make.ensures.own
