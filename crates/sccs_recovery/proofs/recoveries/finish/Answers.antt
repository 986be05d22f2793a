use Rattle.std.proofs.Common.{false}
use Rattle.sccs_disk.specs.Told.{seen}
use Rattle.sccs_name_files.specs.StepFiles.{is_working}
use Rattle.sccs_name_files.proofs.Touched.{only_then}
use Rattle.sccs_crash_points.specs.Recovery.{recover_alone}
use Rattle.sccs_sid.specs.declared.refusals.StepFault.TheVariants as faults
use Rattle.sccs_store.specs.Commits.{plan}
use Rattle.sccs_store.specs.declared.new_files.NewFile.TheVariants.{Keep}
use Rattle.sccs_store.proofs.Working.{moves_then}
use Rattle.sccs_recovery.proofs.RecoveryEnds.{cleared_gone, err_is, part_partly, partly}
use Rattle.sccs_recovery.proofs.RecoveryLaws.{calm_leaves, ended_calm, ended_story, stopped_firm, stopped_story}
use Rattle.sccs_recovery.proofs.RecoveryLaws.{touched_firm, touched_story}
use Rattle.sccs_crash_points.specs.Unlocked.{is_own}
use Rattle.sccs_crash_points.proofs.Unlocked.{others_then}
use Rattle.sccs_recovery.proofs.OtherNames.{touched_others}
use Rattle.sccs_recovery.proofs.recoveries.finish.Goals as goal

pub returns-in-Ok-commit-clause-story : goal.returns-in-Ok-commit-clause-story
returns-in-Ok-commit-clause-story g c =
    ended_story c.args.name.now c.in-Ok.new_p _ (g.D.Disk.told c.prepare.new.disk) _ c.requires.sfile c.requires.z
    c.in-Ok.ensures.view c.prepare.ensures.touches c.in-Ok.ensures.firm c.in-Ok-commit.ensures.calm

pub returns-in-Ok-commit-clause-calm : goal.returns-in-Ok-commit-clause-calm
returns-in-Ok-commit-clause-calm g c =
    ended_calm c.args.name.now c.in-Ok.new_p _ (g.D.Disk.told c.prepare.new.disk) _ c.requires.sfile c.requires.z
    c.in-Ok.ensures.view c.prepare.ensures.touches c.in-Ok.ensures.firm c.in-Ok-commit.ensures.calm

pub returns-in-Err-clause-story : goal.returns-in-Err-clause-story
returns-in-Err-clause-story g c =
    stopped_story c.args.name.now c.in-Ok.new_p _ (g.D.Disk.told c.prepare.new.disk) _ c.requires.sfile c.requires.z
    c.in-Ok.ensures.view c.prepare.ensures.touches c.in-Ok.ensures.firm c.in-Err.ensures.stopped

pub returns-in-Err-Failed-clause-story : goal.returns-in-Err-Failed-clause-story
returns-in-Err-Failed-clause-story g c = touched_story c.args.name.now _ _ c.requires.sfile c.prepare.ensures.touches

pub returns-in-Err-Memory-clause-story : goal.returns-in-Err-Memory-clause-story
returns-in-Err-Memory-clause-story g c =
    touched_story c.args.name.now _ _ c.requires.sfile (only_then (is_working c.args.name.now) _
    (g.D.Disk.told c.prepare.new.disk) _ c.prepare.ensures.touches c.give_up.ensures.touches)

pub returns-in-Err-clause-partly : goal.returns-in-Err-clause-partly
returns-in-Err-clause-partly g c =
    λ fault. part_partly c.args.name.now (plan false c.in-Ok.new_p Keep) (seen (g.D.Disk.told c.args.disk.now))
    (seen (g.D.Disk.told c.prepare.new.disk)) _ c.requires.sfile c.prepare.ensures.moves c.in-Ok.ensures.view
    c.in-Err.ensures.halfway

pub returns-in-Err-Failed-clause-partly : goal.returns-in-Err-Failed-clause-partly
returns-in-Err-Failed-clause-partly g c = λ fault. partly c.args.name.now (recover_alone c.args.name.now) _ _
    c.prepare.ensures.moves

pub returns-in-Err-Memory-clause-memory : goal.returns-in-Err-Memory-clause-memory
returns-in-Err-Memory-clause-memory g c = λ fault. moves_then (is_working c.args.name.now) _
    (seen (g.D.Disk.told c.prepare.new.disk)) _ c.prepare.ensures.moves c.give_up.ensures.moves

pub returns-in-Err-Memory-clause-cleared : goal.returns-in-Err-Memory-clause-cleared
returns-in-Err-Memory-clause-cleared g c =
    λ fault. cleared_gone c.args.name.now (seen (g.D.Disk.told c.args.disk.now))
    (seen (g.D.Disk.told c.prepare.new.disk)) _ c.prepare.ensures.moves
    (c.give_up.ensures.view (err_is c.give_up.result faults.Memory fault))

pub returns-in-Err-Memory-clause-partly : goal.returns-in-Err-Memory-clause-partly
returns-in-Err-Memory-clause-partly g c =
    λ fault. partly c.args.name.now (recover_alone c.args.name.now) _ _ (moves_then (is_working c.args.name.now) _
    (seen (g.D.Disk.told c.prepare.new.disk)) _ c.prepare.ensures.moves c.give_up.ensures.moves)

pub returns-in-Ok-commit-clause-firm : goal.returns-in-Ok-commit-clause-firm
returns-in-Ok-commit-clause-firm g c = calm_leaves _ _ (returns-in-Ok-commit-clause-calm g c)

pub returns-in-Err-clause-firm : goal.returns-in-Err-clause-firm
returns-in-Err-clause-firm g c =
    stopped_firm c.args.name.now c.in-Ok.new_p _ (g.D.Disk.told c.prepare.new.disk) _ c.requires.sfile c.requires.z
    c.in-Ok.ensures.view c.prepare.ensures.touches c.in-Ok.ensures.firm c.in-Err.ensures.stopped

pub returns-in-Err-Failed-clause-firm : goal.returns-in-Err-Failed-clause-firm
returns-in-Err-Failed-clause-firm g c = touched_firm c.args.name.now _ _ c.prepare.ensures.touches

pub returns-in-Err-Memory-clause-firm : goal.returns-in-Err-Memory-clause-firm
returns-in-Err-Memory-clause-firm g c =
    touched_firm c.args.name.now _ _ (only_then (is_working c.args.name.now) _ (g.D.Disk.told c.prepare.new.disk) _
    c.prepare.ensures.touches c.give_up.ensures.touches)

pub returns-in-Err-Memory-clause-touches : goal.returns-in-Err-Memory-clause-touches
returns-in-Err-Memory-clause-touches g c = λ fault. only_then (is_working c.args.name.now) _
    (g.D.Disk.told c.prepare.new.disk) _ c.prepare.ensures.touches c.give_up.ensures.touches

pub returns-in-Ok-commit-clause-others : goal.returns-in-Ok-commit-clause-others
returns-in-Ok-commit-clause-others g c =
    others_then (is_own c.args.name.now) _ (g.D.Disk.told c.prepare.new.disk) _
    (touched_others c.args.name.now _ _ c.prepare.ensures.touches) c.commit.ensures.others

pub returns-in-Err-clause-others : goal.returns-in-Err-clause-others
returns-in-Err-clause-others g c =
    others_then (is_own c.args.name.now) _ (g.D.Disk.told c.prepare.new.disk) _
    (touched_others c.args.name.now _ _ c.prepare.ensures.touches) c.commit.ensures.others

pub returns-in-Err-Failed-clause-others : goal.returns-in-Err-Failed-clause-others
returns-in-Err-Failed-clause-others g c = touched_others c.args.name.now _ _ c.prepare.ensures.touches

pub returns-in-Err-Memory-clause-others : goal.returns-in-Err-Memory-clause-others
returns-in-Err-Memory-clause-others g c =
    touched_others c.args.name.now _ _ (only_then (is_working c.args.name.now) _ (g.D.Disk.told c.prepare.new.disk) _
    c.prepare.ensures.touches c.give_up.ensures.touches)
