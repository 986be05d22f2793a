use Rattle.std.specs.Str.{bytes_eq}
use Rattle.sccs_base.specs.Name.{y_file}
use Rattle.sccs_name_files.specs.StepFiles.{is_working}
use Rattle.sccs_name_files.proofs.Touched.{only_wider}
use Rattle.sccs_crash_points.proofs.FileNames.{no_y}
use Rattle.sccs_store.proofs.Working.{ok_map}
use Rattle.sccs_recovery.proofs.RecoveryLaws.{synced_calm, synced_firm, synced_story, touched_firm, touched_story}
use Rattle.sccs_store.proofs.Working.{err_map}
use Rattle.sccs_recovery.proofs.RecoveryEnds.{tidied_moves}
use Rattle.sccs_recovery.proofs.OtherNames.{synced_others, y_others}
use Rattle.sccs_recovery.proofs.recoveries.tidy.Goals as goal

pub returns-clause-story : goal.returns-clause-story
returns-clause-story g c =
    synced_story c.args.name.now _ (g.D.Disk.told c.clear_sibling.new.disk) _ c.sync_names.result c.requires
    (only_wider (bytes_eq (y_file c.args.name.now)) (is_working c.args.name.now) _ _ (no_y c.args.name.now)
    c.clear_sibling.ensures.touches) c.sync_names.ensures.done c.sync_names.ensures.half

pub returns-clause-calm : goal.returns-clause-calm
returns-clause-calm g c =
    ok_map c.sync_names.result (synced_calm c.args.name.now _ (g.D.Disk.told c.clear_sibling.new.disk) _
    (only_wider (bytes_eq (y_file c.args.name.now)) (is_working c.args.name.now) _ _ (no_y c.args.name.now)
    c.clear_sibling.ensures.touches)) c.sync_names.ensures.done

pub returns-in_err-clear_sibling-clause-story : goal.returns-in_err-clear_sibling-clause-story
returns-in_err-clear_sibling-clause-story g c =
    touched_story c.args.name.now _ _ c.requires (only_wider (bytes_eq (y_file c.args.name.now))
    (is_working c.args.name.now) _ _ (no_y c.args.name.now) c.clear_sibling.ensures.touches)

pub returns-clause-view_err : goal.returns-clause-view_err
returns-clause-view_err g c =
    err_map c.sync_names.result (tidied_moves c.args.name.now (g.D.Disk.told c.args.disk.now)
    (g.D.Disk.told c.clear_sibling.new.disk) _ c.in_ok-clear_sibling.ensures.view) c.sync_names.ensures.half

pub returns-clause-firm : goal.returns-clause-firm
returns-clause-firm g c =
    synced_firm c.args.name.now _ (g.D.Disk.told c.clear_sibling.new.disk) _ c.sync_names.result
    (only_wider (bytes_eq (y_file c.args.name.now)) (is_working c.args.name.now) _ _ (no_y c.args.name.now)
    c.clear_sibling.ensures.touches) c.sync_names.ensures.done c.sync_names.ensures.half

pub returns-in_err-clear_sibling-clause-firm : goal.returns-in_err-clear_sibling-clause-firm
returns-in_err-clear_sibling-clause-firm g c =
    touched_firm c.args.name.now _ _ (only_wider (bytes_eq (y_file c.args.name.now)) (is_working c.args.name.now) _ _
    (no_y c.args.name.now) c.clear_sibling.ensures.touches)

pub returns-clause-others : goal.returns-clause-others
returns-clause-others g c =
    synced_others c.args.name.now _ (g.D.Disk.told c.clear_sibling.new.disk) _ c.sync_names.result
    (y_others c.args.name.now _ _ c.clear_sibling.ensures.touches) c.sync_names.ensures.done
    c.sync_names.ensures.half

pub returns-in_err-clear_sibling-clause-others : goal.returns-in_err-clear_sibling-clause-others
returns-in_err-clear_sibling-clause-others g c = y_others c.args.name.now _ _ c.clear_sibling.ensures.touches
