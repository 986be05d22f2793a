use Rattle.sccs_store.proofs.Working.{err_map, err_of, ok_map}
use Rattle.sccs_crash_points.proofs.Unlocked.{others_then}
use Rattle.sccs_group.specs.Halfway.{is_own_of_group}
use Rattle.sccs_group.proofs.Alike.{announced_halfway, half_halfway}
use Rattle.sccs_group.proofs.GroupFiles.{announce_others}
use Rattle.sccs_group.proofs.Announcing.{complete_ends, complete_stops, renamed_done, renamed_half, rename_half}
use Rattle.sccs_group.proofs.Announcing.{announced_view}
use Rattle.sccs_group.proofs.grouping.announce.Goals as goal

pub returns-clause-view : goal.returns-clause-view
returns-clause-view g c =
    ok_map c.complete.result (announced_view c.args.members.now c.args.plan.now c.args.intent.now _
    (g.D.Disk.told c.rename.new.self) _ c.requires.plan c.requires.intent c.in_ok-rename.ensures.done)
    c.complete.ensures.view

pub returns-clause-stops : goal.returns-clause-stops
returns-clause-stops g c =
    err_of c.complete.result (complete_stops c.args.members.now _ (g.D.Disk.told c.rename.new.self) _ c.requires.written
    (renamed_done c.args.plan.now c.args.intent.now _ _ c.requires.plan c.requires.intent c.in_ok-rename.ensures.done)
    c.complete.ensures.story)

pub returns-clause-ends : goal.returns-clause-ends
returns-clause-ends g c =
    ok_map c.complete.result (complete_ends c.args.members.now _ (g.D.Disk.told c.rename.new.self) _ c.requires.written
    (renamed_done c.args.plan.now c.args.intent.now _ _ c.requires.plan c.requires.intent c.in_ok-rename.ensures.done))
    c.complete.ensures.done

pub returns-in_err-rename-clause-stops : goal.returns-in_err-rename-clause-stops
returns-in_err-rename-clause-stops g c = err_of c.from_residual.result
    (rename_half c.args.members.now _ _ c.requires.written
    (renamed_half c.args.plan.now c.args.intent.now _ _ c.requires.plan c.requires.intent c.in_err-rename.ensures.half))

pub returns-clause-halfway : goal.returns-clause-halfway
returns-clause-halfway g c =
    err_map c.complete.result (announced_halfway c.args.members.now c.args.plan.now c.args.intent.now _
    (g.D.Disk.told c.rename.new.self) _ c.requires.plan c.requires.intent c.in_ok-rename.ensures.done)
    c.complete.ensures.halfway

pub returns-in_err-rename-clause-halfway : goal.returns-in_err-rename-clause-halfway
returns-in_err-rename-clause-halfway g c = err_of c.from_residual.result
    (half_halfway c.args.members.now c.args.plan.now c.args.intent.now _ _
    c.requires.plan c.requires.intent c.in_err-rename.ensures.half)

pub returns-clause-others : goal.returns-clause-others
returns-clause-others g c =
    others_then (is_own_of_group c.args.members.now) _ (g.D.Disk.told c.rename.new.self) _
    (announce_others c.args.members.now c.args.plan.now c.args.intent.now _ _ _ _ c.rename.result c.requires.plan
    c.requires.intent c.rename.ensures) c.complete.ensures.others

pub returns-in_err-rename-clause-others : goal.returns-in_err-rename-clause-others
returns-in_err-rename-clause-others g c = announce_others c.args.members.now c.args.plan.now c.args.intent.now _ _ _ _
    c.rename.result c.requires.plan c.requires.intent c.rename.ensures
