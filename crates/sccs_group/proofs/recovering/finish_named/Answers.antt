use Rattle.std.proofs.Common.{ap, ◌∙◌}
use Rattle.sccs_disk.specs.Files.{Content}
use Rattle.sccs_disk.specs.Told.{seen}
use Rattle.sccs_store.proofs.Working.{err_map, ok_map}
use Rattle.sccs_group.proofs.Intended.{finish_halfway, finish_others, plan_gone_halfway, plan_gone_others}
use Rattle.sccs_group.specs.Recovering.{IsBad}
use Rattle.std.specs.Prelude.{Option}
use Rattle.sccs_group.proofs.Found.{form_told, group_view, intent_told, ok_told, plan_done, plan_story, plan_then}
use Rattle.sccs_group.proofs.Found.{plan_touches, plan_view}
use Rattle.sccs_group.proofs.recovering.finish_named.Goals as goal

pub returns-in-Ok-clause-view : goal.returns-in-Ok-clause-view
returns-in-Ok-clause-view g c =
    ok_map c.finish_intent.result (group_view _ (seen (g.D.Disk.told c.clear.new.disk)) _ (plan_view c.args.plan.now _
    (g.D.Disk.told c.clear.new.disk) c.requires.plan c.in-Ok.ensures.view)) c.finish_intent.ensures.view

pub returns-in-Ok-clause-found : goal.returns-in-Ok-clause-found
returns-in-Ok-clause-found g c =
    ok_told c.finish_intent.result _ (seen (g.D.Disk.told c.clear.new.disk)) (plan_view c.args.plan.now _
    (g.D.Disk.told c.clear.new.disk) c.requires.plan c.in-Ok.ensures.view) c.finish_intent.ensures.found

pub returns-in-Ok-clause-bad : goal.returns-in-Ok-clause-bad
returns-in-Ok-clause-bad g c = λ line is.
    let bad = c.finish_intent.ensures.bad line is in
    let plan = plan_view c.args.plan.now _ (g.D.Disk.told c.clear.new.disk) c.requires.plan c.in-Ok.ensures.view in (
      ap seen bad.0 ∙ plan,
      intent_told (λ (x : Option Content). IsBad x line) _ (seen (g.D.Disk.told c.clear.new.disk)) plan bad.1,
    )

pub returns-in-Ok-clause-memory : goal.returns-in-Ok-clause-memory
returns-in-Ok-clause-memory g c = λ is. ap seen (c.finish_intent.ensures.memory is) ∙ plan_view c.args.plan.now _
    (g.D.Disk.told c.clear.new.disk) c.requires.plan c.in-Ok.ensures.view

pub returns-in-Ok-clause-touches : goal.returns-in-Ok-clause-touches
returns-in-Ok-clause-touches g c =
    plan_touches c.args.plan.now _ (g.D.Disk.told c.clear.new.disk) _ c.finish_intent.result c.requires.plan
    c.clear.ensures.touches (λ line is. (c.finish_intent.ensures.bad line is).0) c.finish_intent.ensures.memory

pub returns-in-Ok-clause-story : goal.returns-in-Ok-clause-story
returns-in-Ok-clause-story g c = plan_then c.args.plan.now _ (g.D.Disk.told c.clear.new.disk) _ c.requires.plan
    c.in-Ok.ensures.view c.clear.ensures.call c.finish_intent.ensures.story

pub returns-in-Ok-clause-done : goal.returns-in-Ok-clause-done
returns-in-Ok-clause-done g c = ok_map c.finish_intent.result (plan_done c.args.plan.now _
    (g.D.Disk.told c.clear.new.disk) _ c.requires.plan c.in-Ok.ensures.view c.clear.ensures.call)
    c.finish_intent.ensures.done

pub returns-in-Err-clause-story : goal.returns-in-Err-clause-story
returns-in-Err-clause-story g c = plan_story c.args.plan.now _ _ c.requires.plan c.clear.ensures.call

pub returns-in-Ok-clause-halfway : goal.returns-in-Ok-clause-halfway
returns-in-Ok-clause-halfway g c =
    err_map c.finish_intent.result (finish_halfway _ (g.D.Disk.told c.clear.new.disk) _ (plan_view c.args.plan.now _
    (g.D.Disk.told c.clear.new.disk) c.requires.plan c.in-Ok.ensures.view)) c.finish_intent.ensures.halfway

pub returns-in-Err-clause-halfway : goal.returns-in-Err-clause-halfway
returns-in-Err-clause-halfway g c = plan_gone_halfway c.args.plan.now _ _ c.requires.plan c.in-Err.ensures.view_err

pub returns-in-Ok-clause-others : goal.returns-in-Ok-clause-others
returns-in-Ok-clause-others g c =
    finish_others c.args.plan.now _ (g.D.Disk.told c.clear.new.disk) _ c.requires.plan (plan_view c.args.plan.now _
    (g.D.Disk.told c.clear.new.disk) c.requires.plan c.in-Ok.ensures.view) c.clear.ensures.call
    c.finish_intent.ensures.others

pub returns-in-Err-clause-others : goal.returns-in-Err-clause-others
returns-in-Err-clause-others g c = plan_gone_others c.args.plan.now _ _ c.requires.plan c.clear.ensures.call

pub returns-in-Ok-clause-form : goal.returns-in-Ok-clause-form
returns-in-Ok-clause-form g c =
    form_told c.finish_intent.result _ (seen (g.D.Disk.told c.clear.new.disk)) (plan_view c.args.plan.now _
    (g.D.Disk.told c.clear.new.disk) c.requires.plan c.in-Ok.ensures.view) c.finish_intent.ensures.form
