use Rattle.std.proofs.Common.{refl}
use Rattle.std.specs.Str.{bytes_eq}
use Rattle.sccs_base.specs.Name.{q_file}
use Rattle.sccs_name_files.specs.StepFiles.{is_working}
use Rattle.sccs_name_files.proofs.Touched.{only_wider}
use Rattle.sccs_crash_points.proofs.FileNames.{no_q}
use Rattle.sccs_store.proofs.Working.{same_touches}
use Rattle.sccs_recovery.proofs.RecoveryEnds.{q_moves}
use Rattle.sccs_recovery.proofs.recoveries.prepare_left.Goals as goal

pub returns-in-Same-clause-touches : goal.returns-in-Same-clause-touches
returns-in-Same-clause-touches g c = same_touches (is_working c.args.name.now) _ _ refl

pub returns-in-Gone-clause-touches : goal.returns-in-Gone-clause-touches
returns-in-Gone-clause-touches g c = same_touches (is_working c.args.name.now) _ _ refl

pub returns-in-Ok-clause-touches : goal.returns-in-Ok-clause-touches
returns-in-Ok-clause-touches g c = only_wider (bytes_eq (q_file c.args.name.now)) (is_working c.args.name.now) _ _
    (no_q c.args.name.now) c.prepare_p.ensures.touches

pub returns-in-Err-clause-touches : goal.returns-in-Err-clause-touches
returns-in-Err-clause-touches g c = only_wider (bytes_eq (q_file c.args.name.now)) (is_working c.args.name.now) _ _
    (no_q c.args.name.now) c.prepare_p.ensures.touches

pub returns-in-Ok-clause-moves : goal.returns-in-Ok-clause-moves
returns-in-Ok-clause-moves g c = q_moves c.args.name.now _ _ _ c.in-Ok.ensures.view
