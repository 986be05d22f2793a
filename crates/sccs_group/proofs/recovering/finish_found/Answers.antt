use Rattle.std.proofs.Common.{IfSome, List, Option, Some, ap, subst, sym, ◌∙◌}
use Rattle.sccs_disk.specs.Told.{seen}
use Rattle.sccs_crash_points.specs.Unlocked.{KeepsOthers}
use Rattle.sccs_group.specs.Finishing.{Always}
use Rattle.sccs_group.specs.Halfway.{IsHalfway, is_own_of_group}
use Rattle.sccs_group.proofs.Intended.{halfway_synced, of_intended, others_synced}
use Rattle.sccs_group.specs.Members.{AreMembers}
use Rattle.sccs_group.specs.declared.members.Member.{Member}
use Rattle.sccs_group.proofs.Calling.{sync_completes}
use Rattle.sccs_group.proofs.Found.{found_done, found_story, found_view, none_view, sync_either, synced_view, told_by}
use Rattle.sccs_group.proofs.recovering.finish_found.Goals as goal

pub complete-requires-clause-members : goal.complete-requires-clause-members
complete-requires-clause-members g c =
    subst (λ (o : Option (List Member)). IfSome o (λ members. AreMembers members)) (c.in-Some.is
    ∙ ap (λ (l : List Member). Some l) (sym c.items.ensures)) c.requires.members

pub returns-in-Ok-clause-view : goal.returns-in-Ok-clause-view
returns-in-Ok-clause-view g c =
    none_view _ _ (told_by (seen (g.D.Disk.told c.args.disk.now)) c.args.found.now _ c.in-None.is c.requires.told)
    (c.in-Ok.ensures.done.view ∙ synced_view (seen (g.D.Disk.told c.args.disk.now)))

pub returns-in-Ok-clause-story : goal.returns-in-Ok-clause-story
returns-in-Ok-clause-story g c = sync_either _ _ _ _ c.sync_names.result c.sync_names.ensures

pub returns-in-Ok-clause-done : goal.returns-in-Ok-clause-done
returns-in-Ok-clause-done g c = sync_completes Always _ _ c.in-Ok.ensures.done

pub returns-in-Err-clause-story : goal.returns-in-Err-clause-story
returns-in-Err-clause-story g c = sync_either _ _ _ _ c.sync_names.result c.sync_names.ensures

pub returns-in-Ok-complete-clause-view : goal.returns-in-Ok-complete-clause-view
returns-in-Ok-complete-clause-view g c =
    found_view c.items.result.now _ _ (told_by (seen (g.D.Disk.told c.args.disk.now)) c.args.found.now _ (c.in-Some.is
    ∙ ap (λ (l : List Member). Some l) (sym c.items.ensures)) c.requires.told) c.in-Ok-complete.ensures.view

pub returns-in-Ok-complete-clause-story : goal.returns-in-Ok-complete-clause-story
returns-in-Ok-complete-clause-story g c =
    found_story c.items.result.now (g.D.Disk.told c.args.disk.now) _ (told_by (seen (g.D.Disk.told c.args.disk.now))
    c.args.found.now _ (c.in-Some.is ∙ ap (λ (l : List Member). Some l) (sym c.items.ensures)) c.requires.told)
    c.complete.ensures.story

pub returns-in-Ok-complete-clause-done : goal.returns-in-Ok-complete-clause-done
returns-in-Ok-complete-clause-done g c =
    found_done c.items.result.now (g.D.Disk.told c.args.disk.now) _ (told_by (seen (g.D.Disk.told c.args.disk.now))
    c.args.found.now _ (c.in-Some.is ∙ ap (λ (l : List Member). Some l) (sym c.items.ensures)) c.requires.told)
    c.in-Ok-complete.ensures.done

pub returns-in-Err-complete-clause-story : goal.returns-in-Err-complete-clause-story
returns-in-Err-complete-clause-story g c =
    found_story c.items.result.now (g.D.Disk.told c.args.disk.now) _ (told_by (seen (g.D.Disk.told c.args.disk.now))
    c.args.found.now _ (c.in-Some.is ∙ ap (λ (l : List Member). Some l) (sym c.items.ensures)) c.requires.told)
    c.complete.ensures.story

pub returns-in-Err-clause-halfway : goal.returns-in-Err-clause-halfway
returns-in-Err-clause-halfway g c = halfway_synced _ _ _ _ c.sync_names.result c.sync_names.ensures

pub returns-in-Err-complete-clause-halfway : goal.returns-in-Err-complete-clause-halfway
returns-in-Err-complete-clause-halfway g c =
    of_intended (seen (g.D.Disk.told c.args.disk.now)) c.items.result.now (λ (members : List Member). IsHalfway members
    (seen (g.D.Disk.told c.args.disk.now)) (seen (g.D.Disk.told c.complete.new.disk)))
    (told_by (seen (g.D.Disk.told c.args.disk.now)) c.args.found.now _ (c.in-Some.is ∙ ap (λ (l : List Member). Some l)
    (sym c.items.ensures)) c.requires.told) c.in-Err-complete.ensures.halfway

pub returns-in-Ok-clause-others : goal.returns-in-Ok-clause-others
returns-in-Ok-clause-others g c = others_synced _ _ _ _ c.sync_names.result c.sync_names.ensures

pub returns-in-Err-clause-others : goal.returns-in-Err-clause-others
returns-in-Err-clause-others g c = others_synced _ _ _ _ c.sync_names.result c.sync_names.ensures

pub returns-in-Ok-complete-clause-others : goal.returns-in-Ok-complete-clause-others
returns-in-Ok-complete-clause-others g c =
    of_intended (seen (g.D.Disk.told c.args.disk.now)) c.items.result.now (λ (members : List Member). KeepsOthers
    (is_own_of_group members) (g.D.Disk.told c.args.disk.now) (g.D.Disk.told c.complete.new.disk))
    (told_by (seen (g.D.Disk.told c.args.disk.now)) c.args.found.now _ (c.in-Some.is ∙ ap (λ (l : List Member). Some l)
    (sym c.items.ensures)) c.requires.told) c.complete.ensures.others

pub returns-in-Err-complete-clause-others : goal.returns-in-Err-complete-clause-others
returns-in-Err-complete-clause-others g c =
    of_intended (seen (g.D.Disk.told c.args.disk.now)) c.items.result.now (λ (members : List Member). KeepsOthers
    (is_own_of_group members) (g.D.Disk.told c.args.disk.now) (g.D.Disk.told c.complete.new.disk))
    (told_by (seen (g.D.Disk.told c.args.disk.now)) c.args.found.now _ (c.in-Some.is ∙ ap (λ (l : List Member). Some l)
    (sym c.items.ensures)) c.requires.told) c.complete.ensures.others
