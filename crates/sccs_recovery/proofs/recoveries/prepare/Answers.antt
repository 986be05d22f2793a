use Rattle.sccs_base.specs.Name.{q_file}
use Rattle.sccs_disk.specs.Images.{IsFirm}
use Rattle.sccs_disk.specs.Told.{seen}
use Rattle.sccs_name_files.specs.StepFiles.{is_working}
use Rattle.sccs_name_files.proofs.Touched.{only_then}
use Rattle.sccs_store.proofs.Working.{cleared_moves, moves_then, ok_map}
use Rattle.sccs_recovery.proofs.RecoveryLaws.{both_ok, firm_from, prepared_needs, prepared_there, prepared_view}
use Rattle.sccs_recovery.proofs.recoveries.prepare.Goals as goal

pub returns-in-Ok-clause-view : goal.returns-in-Ok-clause-view
returns-in-Ok-clause-view g c =
    both_ok c.prepare_left.result c.prepare_left.ensures.new c.prepare_left.ensures.view
    (λ new is view. prepared_view c.args.name.now c.args.left.now new _ (seen (g.D.Disk.told c.clear_working.new.disk))
    _ is c.requires.z c.requires.left c.in-Ok.ensures.view view)

pub returns-in-Ok-clause-z : goal.returns-in-Ok-clause-z
returns-in-Ok-clause-z g c =
    ok_map c.prepare_left.result (λ view. prepared_there c.args.name.now c.args.left.now _
    (seen (g.D.Disk.told c.clear_working.new.disk)) _ c.requires.z c.in-Ok.ensures.view view)
    c.prepare_left.ensures.view

pub returns-in-Ok-clause-needs : goal.returns-in-Ok-clause-needs
returns-in-Ok-clause-needs g c =
    both_ok c.prepare_left.result c.prepare_left.ensures.new c.prepare_left.ensures.view
    (λ new is view. prepared_needs c.args.name.now c.args.left.now new _ (g.D.Disk.told c.clear_working.new.disk) _ is
    c.requires.left c.in-Ok.ensures.view view)

pub returns-in-Ok-clause-moves : goal.returns-in-Ok-clause-moves
returns-in-Ok-clause-moves g c =
    moves_then (is_working c.args.name.now) _ (seen (g.D.Disk.told c.clear_working.new.disk)) _
    (cleared_moves c.args.name.now _ _ c.in-Ok.ensures.view) c.prepare_left.ensures.moves

pub returns-in-Ok-clause-touches : goal.returns-in-Ok-clause-touches
returns-in-Ok-clause-touches g c = only_then (is_working c.args.name.now) _ (g.D.Disk.told c.clear_working.new.disk) _
    c.clear_working.ensures.touches c.prepare_left.ensures.touches

pub returns-in-Ok-clause-firm : goal.returns-in-Ok-clause-firm
returns-in-Ok-clause-firm g c =
    firm_from c.prepare_left.result (IsFirm (q_file c.args.name.now)) (is_working c.args.name.now) _
    (g.D.Disk.told c.clear_working.new.disk) _ c.clear_working.ensures.touches c.prepare_left.ensures.firm
