use Rattle.std.proofs.Common.{◌≤◌, ap, arith, flat_map, List, length, subst, ◌∙◌}
use Rattle.sccs_base.specs.Stream.{Buffers}
use Rattle.sccs_history.specs.declared.headers.Record.{Record}
use Rattle.sccs_prs.specs.PrsText.{shown_text}
use Rattle.sccs_prs.specs.Shown.{shown_file}
use Rattle.sccs_prs.proofs.GivesLaws.{item_fails, item_gives}
use Rattle.sccs_prs.proofs.LinesLaws.{read_still, shown_in, take_all}
use Rattle.sccs_prs.proofs.printing.put_deltas.Goals as goal

pub put_shown-requires-clause-shown : goal.put_shown-requires-clause-shown
put_shown-requires-clause-shown g c =
    shown_in c.args.file.front.now.header.records c.items-delta-items.result.now c.items-delta-items.ensures
    c.loop-delta.delta-index c.delta-item.result c.delta-item.result c.requires.spelled.records
    c.loop-delta-test.true c.delta-item.is

pub returns-in-Err-clause-gives : goal.returns-in-Err-clause-gives
returns-in-Err-clause-gives g c = λ bytes items is.
    item_fails (shown_text c.args.all c.args.chosen c.args.parts.now (shown_file c.args.file items))
    c.args.file.front.now.header.records c.items-delta-items.result.now c.items-delta-items.ensures
    c.loop-delta.delta-index c.delta-item.result c.delta-item.result c.in-Err.fault _ _
    c.put_shown.new.listing.buffer _ _ _ _ c.loop-delta-test.true c.delta-item.is
    (c.loop-delta.invariant.gave bytes items is)
    (c.in-Err.ensures.gives bytes items (read_still (g.D.Disk.told c.args.disk.now) (g.D.Disk.told c.loop-delta.disk)
    c.args.file.name.now c.args.file.front.now bytes items c.loop-delta.invariant.same is))

pub loop-delta-preserved : goal.loop-delta-preserved
loop-delta-preserved g c = record {
  same = c.put_shown.ensures.same ∙ c.loop-delta.invariant.same;
  later = omega (arith, c.loop-delta.invariant.later, c.put_shown.ensures.causes.disk_later);
  out_later = omega (arith, c.loop-delta.invariant.out_later, c.put_shown.ensures.causes.out_later);
  gave = λ bytes items is.
      item_gives (shown_text c.args.all c.args.chosen c.args.parts.now (shown_file c.args.file items))
      c.args.file.front.now.header.records c.items-delta-items.result.now c.items-delta-items.ensures
      c.loop-delta.delta-index c.delta-item.result c.delta-item.result _ _ c.put_shown.new.listing.buffer _ _ _
      c.loop-delta-test.true c.delta-item.is (c.loop-delta.invariant.gave bytes items is)
      (c.in_default.ensures.gives bytes items (read_still (g.D.Disk.told c.args.disk.now)
      (g.D.Disk.told c.loop-delta.disk) c.args.file.name.now c.args.file.front.now bytes items
      c.loop-delta.invariant.same is));
}

pub returns-clause-gives : goal.returns-clause-gives
returns-clause-gives g c = λ bytes items is.
    let records = c.args.file.front.now.header.records in
    let ends : length records ≤ c.loop-delta.delta-index =
    subst (λ (l : List Record). length l ≤ c.loop-delta.delta-index) c.items-delta-items.ensures
    c.loop-delta-test.false in
    subst (λ t. Buffers c.args.listing.now.buffer t c.loop-delta.listing.buffer (g.O.Sink.given c.args.out.now)
    (g.O.Sink.given c.loop-delta.out))
    (ap (flat_map (shown_text c.args.all c.args.chosen c.args.parts.now (shown_file c.args.file items)))
    (take_all records c.loop-delta.delta-index ends))
    (c.loop-delta.invariant.gave bytes items is)
