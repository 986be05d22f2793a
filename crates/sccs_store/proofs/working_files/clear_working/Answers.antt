use Rattle.std.specs.Str.{bytes_eq}
use Rattle.sccs_base.specs.Name.{q_file, x_file, y_file}
use Rattle.sccs_name_files.specs.StepFiles.{is_working}
use Rattle.sccs_name_files.proofs.Touched.{only_then, only_wider}
use Rattle.sccs_crash_points.proofs.FileNames.{no_q, no_x, no_y}
use Rattle.sccs_store.proofs.Working.{err_map, err_of, moves_then, moves_wider, without_moves}
use Rattle.sccs_store.proofs.working_files.clear_working.Goals as goal

pub returns-in_err-clear_sibling-clause-touches : goal.returns-in_err-clear_sibling-clause-touches
returns-in_err-clear_sibling-clause-touches g c = only_wider (bytes_eq (x_file c.args.name.now))
    (is_working c.args.name.now) _ _ (no_x c.args.name.now) c.clear_sibling.ensures.touches

pub returns-in_err-clear_sibling-2-clause-view_err : goal.returns-in_err-clear_sibling-2-clause-view_err
returns-in_err-clear_sibling-2-clause-view_err g c =
    err_of c.from_residual-in_err-clear_sibling-2.result (moves_then (is_working c.args.name.now) _ _ _
    (moves_wider (bytes_eq (x_file c.args.name.now)) (is_working c.args.name.now) _ _ (no_x c.args.name.now)
    (without_moves (x_file c.args.name.now) _ _ c.in_ok-clear_sibling.ensures.view))
    (moves_wider (bytes_eq (q_file c.args.name.now)) (is_working c.args.name.now) _ _ (no_q c.args.name.now)
    c.in_err-clear_sibling-2.ensures.view_err))

pub returns-in_err-clear_sibling-2-clause-touches : goal.returns-in_err-clear_sibling-2-clause-touches
returns-in_err-clear_sibling-2-clause-touches g c = only_then (is_working c.args.name.now) _ _ _
    (only_wider (bytes_eq (x_file c.args.name.now)) (is_working c.args.name.now) _ _ (no_x c.args.name.now)
    c.clear_sibling.ensures.touches) (only_wider (bytes_eq (q_file c.args.name.now)) (is_working c.args.name.now) _ _
    (no_q c.args.name.now) c.clear_sibling-2.ensures.touches)

pub returns-clause-view_err : goal.returns-clause-view_err
returns-clause-view_err g c =
    err_map c.clear_sibling-3.result (λ moves. moves_then (is_working c.args.name.now) _ _ _
    (moves_wider (bytes_eq (x_file c.args.name.now)) (is_working c.args.name.now) _ _ (no_x c.args.name.now)
    (without_moves (x_file c.args.name.now) _ _ c.in_ok-clear_sibling.ensures.view))
    (moves_then (is_working c.args.name.now) _ _ _ (moves_wider (bytes_eq (q_file c.args.name.now))
    (is_working c.args.name.now) _ _ (no_q c.args.name.now)
    (without_moves (q_file c.args.name.now) _ _ c.in_ok-clear_sibling-2.ensures.view))
    (moves_wider (bytes_eq (y_file c.args.name.now)) (is_working c.args.name.now) _ _ (no_y c.args.name.now)
    moves))) c.clear_sibling-3.ensures.view_err

pub returns-clause-touches : goal.returns-clause-touches
returns-clause-touches g c = only_then (is_working c.args.name.now) _ _ _
    (only_wider (bytes_eq (x_file c.args.name.now)) (is_working c.args.name.now) _ _ (no_x c.args.name.now)
    c.clear_sibling.ensures.touches) (only_then (is_working c.args.name.now) _ _ _
    (only_wider (bytes_eq (q_file c.args.name.now)) (is_working c.args.name.now) _ _ (no_q c.args.name.now)
    c.clear_sibling-2.ensures.touches) (only_wider (bytes_eq (y_file c.args.name.now)) (is_working c.args.name.now) _ _
    (no_y c.args.name.now) c.clear_sibling-3.ensures.touches))
