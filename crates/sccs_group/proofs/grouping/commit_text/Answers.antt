use Rattle.std.proofs.lemmas.Result.{err_from_is_err_and}
use Rattle.sccs_disk.specs.Told.{seen}
use Rattle.sccs_store.proofs.Working.{err_of}
use Rattle.sccs_group.proofs.Alike.{plan_halfway, written_halfway}
use Rattle.sccs_group.proofs.GroupFiles.{commit_others, plan_others}
use Rattle.sccs_group.proofs.Committing.{commit_ends, commit_stops, commit_view, gone_plan, plan_firm, plan_there}
use Rattle.sccs_group.proofs.Committing.{plan_touches, plan_view, write_stops}
use Rattle.sccs_group.proofs.grouping.commit_text.Goals as goal

pub announce-requires-clause-there : goal.announce-requires-clause-there
announce-requires-clause-there g c = plan_there c.args.plan.now c.args.text.now _ _ c.in_ok-write_anew.ensures.view

pub returns-in-Ok-clause-view : goal.returns-in-Ok-clause-view
returns-in-Ok-clause-view g c =
    commit_view c.args.members.now _ (g.D.Disk.told c.write_anew.new.disk) _
    (plan_view c.args.members.now c.args.plan.now c.args.text.now _ _ c.requires.plan c.requires.text
    c.in_ok-write_anew.ensures.view) c.in-Ok.ensures.view

pub returns-in-Ok-clause-ends : goal.returns-in-Ok-clause-ends
returns-in-Ok-clause-ends g c =
    commit_ends c.args.members.now _ (g.D.Disk.told c.write_anew.new.disk) _ c.requires.members
    (plan_touches c.args.plan.now _ _ c.requires.plan c.write_anew.ensures.touches)
    (plan_view c.args.members.now c.args.plan.now c.args.text.now _ _ c.requires.plan c.requires.text
    c.in_ok-write_anew.ensures.view) (plan_firm c.args.plan.now _ _ c.requires.plan c.in_ok-write_anew.ensures.firm)
    c.in-Ok.ensures.ends

pub returns-in-Err-clause-stops : goal.returns-in-Err-clause-stops
returns-in-Err-clause-stops g c =
    commit_stops c.args.members.now _ (g.D.Disk.told c.write_anew.new.disk) _ c.requires.members
    (plan_touches c.args.plan.now _ _ c.requires.plan c.write_anew.ensures.touches)
    (plan_view c.args.members.now c.args.plan.now c.args.text.now _ _ c.requires.plan c.requires.text
    c.in_ok-write_anew.ensures.view) (plan_firm c.args.plan.now _ _ c.requires.plan c.in_ok-write_anew.ensures.firm)
    c.in-Err.ensures.stops

pub returns-in_err-write_anew-clause-memory : goal.returns-in_err-write_anew-clause-memory
returns-in_err-write_anew-clause-memory g c = λ is. plan_touches c.args.plan.now _ _ c.requires.plan
    c.write_anew.ensures.touches

pub returns-in_err-write_anew-clause-gone : goal.returns-in_err-write_anew-clause-gone
returns-in_err-write_anew-clause-gone g c =
    let p = err_from_is_err_and c.from_residual.result c.from_residual.ensures.1 in
    rw (p.1, p.2) (λ is. gone_plan c.args.plan.now _ _ c.requires.plan (c.in_err-write_anew.ensures.gone is))

pub returns-in_err-write_anew-clause-stops : goal.returns-in_err-write_anew-clause-stops
returns-in_err-write_anew-clause-stops g c = err_of c.from_residual.result
    (write_stops c.args.members.now _ _ c.requires.members
    (plan_touches c.args.plan.now _ _ c.requires.plan c.write_anew.ensures.touches))

pub returns-in-Err-clause-halfway : goal.returns-in-Err-clause-halfway
returns-in-Err-clause-halfway g c =
    written_halfway c.args.members.now c.args.plan.now c.args.text.now _ (seen (g.D.Disk.told c.write_anew.new.disk)) _
    c.requires.plan c.in_ok-write_anew.ensures.view c.in-Err.ensures.halfway

pub returns-in_err-write_anew-clause-halfway : goal.returns-in_err-write_anew-clause-halfway
returns-in_err-write_anew-clause-halfway g c = err_of c.from_residual.result
    (plan_halfway c.args.members.now c.args.plan.now _ _ c.requires.plan
    c.in_err-write_anew.ensures.view_err)

pub returns-in-Ok-clause-others : goal.returns-in-Ok-clause-others
returns-in-Ok-clause-others g c = commit_others c.args.members.now c.args.plan.now _
    (g.D.Disk.told c.write_anew.new.disk) _ c.requires.plan c.write_anew.ensures.touches c.announce.ensures.others

pub returns-in-Err-clause-others : goal.returns-in-Err-clause-others
returns-in-Err-clause-others g c = commit_others c.args.members.now c.args.plan.now _
    (g.D.Disk.told c.write_anew.new.disk) _ c.requires.plan c.write_anew.ensures.touches c.announce.ensures.others

pub returns-in_err-write_anew-clause-others : goal.returns-in_err-write_anew-clause-others
returns-in_err-write_anew-clause-others g c = plan_others c.args.members.now c.args.plan.now _ _ c.requires.plan
    c.write_anew.ensures.touches
