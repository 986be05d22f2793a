use Rattle.std.proofs.Common.{List, subst, sym, ◌∙◌}
use Rattle.sccs_crash_points.specs.Unlocked.{KeepsOthers}
use Rattle.sccs_group.specs.Ended.{CommitsGroup}
use Rattle.sccs_group.specs.Halfway.{is_own_of_group}
use Rattle.sccs_group.specs.Members.{AreMembers, IsWritten}
use Rattle.sccs_group.specs.declared.members.Member.{Member}
use Rattle.sccs_group.proofs.Alike.{plan_halfway}
use Rattle.sccs_group.proofs.Committing.{gone_plan, plan_touches, write_stops}
use Rattle.sccs_group.proofs.GroupFiles.{plan_others}
use Rattle.sccs_group.proofs.GroupEnds.{commit_ends, text_ends}
use Rattle.sccs_group.proofs.Groups.{members_written}
use Rattle.sccs_group.proofs.grouping.commit_group.Goals as goal

pub commit_text-requires-clause-text : goal.commit_text-requires-clause-text
commit_text-requires-clause-text g c = c.bytes.ensures ∙ c.in-Ok.ensures

pub commit_text-requires-clause-members : goal.commit_text-requires-clause-members
commit_text-requires-clause-members g c = subst AreMembers (sym c.items-list.ensures) c.requires.members

pub commit_text-requires-clause-written : goal.commit_text-requires-clause-written
commit_text-requires-clause-written g c = subst IsWritten (sym c.items-list.ensures)
    (members_written c.args.members.now c.requires.some c.requires.few c.requires.members)

pub returns-in-Ok-clause-ends : goal.returns-in-Ok-clause-ends
returns-in-Ok-clause-ends g c =
    subst (λ (l : List Member). CommitsGroup c.commit_text.result l (g.D.Disk.told c.args.disk.now)
    (g.D.Disk.told c.commit_text.new.disk)) c.items-list.ensures
    (commit_ends c.commit_text.result c.items-list.result.now _ _ c.commit_text.ensures.view
    c.commit_text.ensures.halfway c.commit_text.ensures.memory c.commit_text.ensures.gone
    c.commit_text.ensures.stops c.commit_text.ensures.ends)

pub returns-in-Err-clause-ends : goal.returns-in-Err-clause-ends
returns-in-Err-clause-ends g c =
    text_ends c.drop_text.result c.args.members.now _ _
    (plan_touches c.plan_name-plan.result _ _ c.plan_name-plan.ensures c.drop_text.ensures.touches)
    (λ is. gone_plan c.plan_name-plan.result _ _ c.plan_name-plan.ensures (c.drop_text.ensures.gone is))
    (plan_halfway c.args.members.now c.plan_name-plan.result _ _ c.plan_name-plan.ensures c.drop_text.ensures.moves)
    (write_stops c.args.members.now _ _ c.requires.members
    (plan_touches c.plan_name-plan.result _ _ c.plan_name-plan.ensures c.drop_text.ensures.touches))

pub returns-in-Ok-clause-others : goal.returns-in-Ok-clause-others
returns-in-Ok-clause-others g c =
    subst (λ (l : List Member). KeepsOthers (is_own_of_group l) (g.D.Disk.told c.args.disk.now)
    (g.D.Disk.told c.commit_text.new.disk)) c.items-list.ensures c.commit_text.ensures.others

pub returns-in-Err-clause-others : goal.returns-in-Err-clause-others
returns-in-Err-clause-others g c = plan_others c.args.members.now c.plan_name-plan.result _ _ c.plan_name-plan.ensures
    c.drop_text.ensures.touches
