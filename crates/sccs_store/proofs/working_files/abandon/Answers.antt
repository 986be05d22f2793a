use Rattle.std.specs.Str.{bytes_eq}
use Rattle.sccs_base.specs.Name.{z_file}
use Rattle.sccs_name_files.specs.StepFiles.{is_left, is_working}
use Rattle.sccs_name_files.proofs.Touched.{only_then, only_wider}
use Rattle.sccs_crash_points.specs.Recovery.{cleared, without_name}
use Rattle.sccs_crash_points.proofs.FileNames.{no_working, no_z}
use Rattle.sccs_store.proofs.Working.{becomes_both, cleared_moves, err_map, moves_then, moves_wider, ok_map}
use Rattle.sccs_store.proofs.working_files.abandon.Goals as goal

pub returns-in_err-clear_working-clause-touches : goal.returns-in_err-clear_working-clause-touches
returns-in_err-clear_working-clause-touches g c = only_wider (is_working c.args.name.now) (is_left c.args.name.now) _ _
    (no_working c.args.name.now) c.clear_working.ensures.touches

pub returns-clause-view : goal.returns-clause-view
returns-clause-view g c = ok_map c.clear_sibling.result (becomes_both (cleared c.args.name.now)
    (without_name (z_file c.args.name.now)) _ _ _ c.in_ok-clear_working.ensures.view) c.clear_sibling.ensures.view

pub returns-clause-view_err : goal.returns-clause-view_err
returns-clause-view_err g c =
    err_map c.clear_sibling.result (λ moves. moves_then (is_left c.args.name.now) _ _ _
    (moves_wider (is_working c.args.name.now) (is_left c.args.name.now) _ _ (no_working c.args.name.now)
    (cleared_moves c.args.name.now _ _ c.in_ok-clear_working.ensures.view))
    (moves_wider (bytes_eq (z_file c.args.name.now)) (is_left c.args.name.now) _ _ (no_z c.args.name.now) moves))
    c.clear_sibling.ensures.view_err

pub returns-clause-touches : goal.returns-clause-touches
returns-clause-touches g c =
    only_then (is_left c.args.name.now) _ _ _ (only_wider (is_working c.args.name.now) (is_left c.args.name.now) _ _
    (no_working c.args.name.now) c.clear_working.ensures.touches) (only_wider (bytes_eq (z_file c.args.name.now))
    (is_left c.args.name.now) _ _ (no_z c.args.name.now) c.clear_sibling.ensures.touches)
