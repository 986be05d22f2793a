use Rattle.std.proofs.Common.{Ok, false, refl}
use Rattle.sccs_copies.proofs.BodyLaws.{on_last, on_one}
use Rattle.sccs_copies.proofs.ComingItems.{item_fault}
use Rattle.sccs_copies.proofs.CopyLaws.{copies_last, copies_one, next_left, some_read, some_unread}
use Rattle.sccs_copies.proofs.copies.copy_item.Goals as goal

pub returns-in_err-item-clause-puts : goal.returns-in_err-item-clause-puts
returns-in_err-item-clause-puts g c = some_unread c.args.out.now _ _ _ _ c.next.result c.in_err-item.field-0.0
    c.from_residual.result c.in_err-item.was c.from_residual.ensures.1 c.next.ensures.frame.same
    c.next.ensures.frame.later c.next.ensures.frame.cause

pub returns-in_err-item-clause-told : goal.returns-in_err-item-clause-told
returns-in_err-item-clause-told g c = λ file items is come.
    next_left g.F.BodyFilter.filter file items c.args.copying.now _ c.args.out.now _ _ _ c.in_err-item.field-0.0
    c.from_residual.result c.from_residual.ensures.1
    (item_fault g.F.BodyFilter.filter file items c.args.copying.now c.next.new.self c.in_err-item.field-0.0
    (λ live before found comes. c.in_err-item.ensures.told file live before found is comes) come)

pub returns-in_default-clause-puts : goal.returns-in_default-clause-puts
returns-in_default-clause-puts g c = some_read c.args.out.now _ _ _ _ (Ok false) c.next.ensures.frame.same
    c.next.ensures.frame.later (λ failed. absurd cc)

pub returns-in_default-clause-goes : goal.returns-in_default-clause-goes
returns-in_default-clause-goes g c = λ live before behind stands.
    on_last g.F.BodyFilter.filter live before c.args.copying.now
    (record { items = c.next.new.self; filter = c.args.copying.now.filter; line = c.args.copying.now.line })
    c.next.new.self c.in_ok-item.field-0 c.args.out.now _ _ c.next.ensures.frame.same c.in_default.is
    (c.in_ok-item.ensures.goes live before behind) refl stands

pub returns-in_default-clause-told : goal.returns-in_default-clause-told
returns-in_default-clause-told g c = λ file items is come.
    copies_last g.F.BodyFilter.filter file items c.args.copying.now c.next.new.self c.in_ok-item.field-0 c.args.out.now
    _ _ c.next.ensures.frame.same c.in_default.is (λ live before found comes. c.in_ok-item.ensures.told file live
    before found is comes) come

pub returns-in-Ok-clause-goes : goal.returns-in-Ok-clause-goes
returns-in-Ok-clause-goes g c = λ live before behind stands.
    on_one g.F.BodyFilter.filter live before c.args.copying.now
    (record { items = c.next.new.self; filter = c.push.new.self; line = c.saturating_add-copying.result })
    c.next.new.self c.in_ok-item.field-0 c.in-Some.item c.args.out.now c.push.new.out _ _ _ _ _ c.push.result
    c.in-Ok.field-0 c.in-Ok.is c.next.ensures.frame.same c.in-Some.is (c.in_ok-item.ensures.goes live before behind)
    refl c.push.ensures stands

pub returns-in-Ok-clause-told : goal.returns-in-Ok-clause-told
returns-in-Ok-clause-told g c = λ file items is come.
    copies_one g.F.BodyFilter.filter file items c.args.copying.now
    (record { items = c.next.new.self; filter = c.push.new.self; line = c.saturating_add-copying.result })
    c.next.new.self c.in_ok-item.field-0 c.in-Some.item c.args.out.now c.push.new.out _ _ _ _ _ c.push.result
    c.in-Ok.field-0 c.in-Ok.is c.next.ensures.frame.same c.in-Some.is (λ live before found comes.
    c.in_ok-item.ensures.told file live before found is comes) refl c.push.ensures come
