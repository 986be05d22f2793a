use Rattle.std.proofs.Common.{Ok, Err, Option, arith, refl, subst, ◌∙◌}
use Rattle.sccs_history.specs.declared.headers.Item.{Item}
use Rattle.sccs_body.specs.ToCome.{GivesNext}
use Rattle.sccs_prs.proofs.BodyLaws.{all_put, fault_put, item_cut, item_put, none_put, still_there}
use Rattle.sccs_prs.proofs.GivesLaws.{causes_on}
use Rattle.sccs_prs.proofs.bodies.put_items.Goals as goal

pub items-init : goal.items-init
items-init g c = record {
  same = refl;
  later = omega arith;
  out_later = omega arith;
  name = refl;
  put = λ file rest is. none_put _ file rest c.args.items.now c.args.listing.now.buffer (g.O.Sink.given c.args.out.now)
      is;
}

pub returns-in-Err-put_line-clause-causes : goal.returns-in-Err-put_line-clause-causes
returns-in-Err-put_line-clause-causes g c =
    causes_on (Err c.in-Err-put_line.fault) _ _ _ _ (g.D.Disk.faults c.next.new.disk) _ c.items.invariant.out_later
    (omega (arith, c.items.invariant.later, c.next.ensures.frame.later)) (c.in-Err-put_line.ensures.causes
    (g.D.Disk.faults c.next.new.disk))

pub returns-in-Err-put_line-clause-gives : goal.returns-in-Err-put_line-clause-gives
returns-in-Err-put_line-clause-gives g c = λ file rest is.
    let m = c.items.invariant.put file rest is in
    let here = still_there (g.D.Disk.told c.args.disk.now) (g.D.Disk.told c.items.disk) _ _ file c.items.invariant.same
    c.items.invariant.name is.told_is in
    item_cut file rest c.items.items c.next.new.self c.in-Ok-Some.item c.in-Err-put_line.fault _ _
    c.put_line.new.listing.buffer _ _ _ _ m
    (subst (λ (o : Option Item). GivesNext file m.live m.before (Ok m.rest) c.next.new.self (Ok o))
    c.in-Ok-Some.field-0-is (c.in-Ok-Some.ensures.told file m.live m.before (Ok m.rest) here m.comes))
    c.in-Err-put_line.ensures.gives

pub items-preserved-in_default : goal.items-preserved-in_default
items-preserved-in_default g c = record {
  same = c.next.ensures.frame.same ∙ c.items.invariant.same;
  later = omega (arith, c.items.invariant.later, c.next.ensures.frame.later);
  out_later = omega (arith, c.items.invariant.out_later, (c.in_default.ensures.causes 0).out_later);
  name = c.next.ensures.name ∙ c.items.invariant.name;
  put = λ file rest is.
      let m = c.items.invariant.put file rest is in
      let here = still_there (g.D.Disk.told c.args.disk.now) (g.D.Disk.told c.items.disk) _ _ file
      c.items.invariant.same c.items.invariant.name is.told_is in
      item_put file rest c.items.items c.next.new.self c.in-Ok-Some.item _ _ c.put_line.new.listing.buffer _ _ _ m
      (subst (λ (o : Option Item). GivesNext file m.live m.before (Ok m.rest) c.next.new.self (Ok o))
      c.in-Ok-Some.field-0-is (c.in-Ok-Some.ensures.told file m.live m.before (Ok m.rest) here m.comes))
      c.in_default.ensures.gives;
}

pub items-preserved : goal.items-preserved
items-preserved g c = record {
  same = c.next.ensures.frame.same ∙ c.items.invariant.same;
  later = omega (arith, c.items.invariant.later, c.next.ensures.frame.later);
  out_later = omega (arith, c.items.invariant.out_later, (c.in_default.ensures.causes 0).out_later);
  name = c.next.ensures.name ∙ c.items.invariant.name;
  put = λ file rest is.
      let m = c.items.invariant.put file rest is in
      let here = still_there (g.D.Disk.told c.args.disk.now) (g.D.Disk.told c.items.disk) _ _ file
      c.items.invariant.same c.items.invariant.name is.told_is in
      item_put file rest c.items.items c.next.new.self c.in-Ok-Some.item _ _ c.put_line.new.listing.buffer _ _ _ m
      (subst (λ (o : Option Item). GivesNext file m.live m.before (Ok m.rest) c.next.new.self (Ok o))
      c.in-Ok-Some.field-0-is (c.in-Ok-Some.ensures.told file m.live m.before (Ok m.rest) here m.comes))
      c.in_default.ensures.gives;
}

pub returns-in-Ok-None-clause-gives : goal.returns-in-Ok-None-clause-gives
returns-in-Ok-None-clause-gives g c = λ file rest is.
    let m = c.items.invariant.put file rest is in
    let here = still_there (g.D.Disk.told c.args.disk.now) (g.D.Disk.told c.items.disk) _ _ file c.items.invariant.same
    c.items.invariant.name is.told_is in
    all_put file rest c.items.items c.next.new.self _ _ _ _ m
    (subst (λ (o : Option Item). GivesNext file m.live m.before (Ok m.rest) c.next.new.self (Ok o))
    c.in-Ok-None.field-0-is (c.in-Ok-None.ensures.told file m.live m.before (Ok m.rest) here m.comes))

pub returns-in-Err-clause-gives : goal.returns-in-Err-clause-gives
returns-in-Err-clause-gives g c = λ file rest is.
    let m = c.items.invariant.put file rest is in
    let here = still_there (g.D.Disk.told c.args.disk.now) (g.D.Disk.told c.items.disk) _ _ file c.items.invariant.same
    c.items.invariant.name is.told_is in
    fault_put file rest c.items.items c.next.new.self c.in-Err.fault c.from.result _ _ c.items.listing.buffer _ _ m
    c.from.ensures (c.in-Err.ensures.told file m.live m.before (Ok m.rest) here m.comes)
