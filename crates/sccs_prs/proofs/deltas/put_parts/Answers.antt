use Rattle.std.proofs.Common.{ap, arith, flat_map, subst, ◌∙◌}
use Rattle.sccs_base.specs.Stream.{Buffers}
use Rattle.sccs_prs.specs.PrsText.{data_text}
use Rattle.sccs_prs.specs.Shown.{shown_file}
use Rattle.sccs_prs.proofs.GivesLaws.{part_fails, part_gives}
use Rattle.sccs_prs.proofs.LinesLaws.{read_still, take_all}
use Rattle.sccs_prs.proofs.deltas.put_parts.Goals as goal

pub returns-in-Err-clause-gives : goal.returns-in-Err-clause-gives
returns-in-Err-clause-gives g c = λ bytes items is.
    part_fails (data_text (shown_file c.args.file items) c.args.delta.now) c.args.parts.now c.loop-part.part-index _
    c.in-Err.fault _ _ c.put_part.new.listing.buffer _ _ _ _ c.loop-part-test.true
    (c.loop-part.invariant.gave bytes items is)
    (c.in-Err.ensures.gives bytes items (read_still (g.D.Disk.told c.args.disk.now) (g.D.Disk.told c.loop-part.disk)
    c.args.file.name.now c.args.file.front.now bytes items c.loop-part.invariant.same is))

pub loop-part-preserved : goal.loop-part-preserved
loop-part-preserved g c = record {
  same = c.put_part.ensures.same ∙ c.loop-part.invariant.same;
  later = omega (arith, c.loop-part.invariant.later, c.put_part.ensures.causes.disk_later);
  out_later = omega (arith, c.loop-part.invariant.out_later, c.put_part.ensures.causes.out_later);
  gave = λ bytes items is.
      part_gives (data_text (shown_file c.args.file items) c.args.delta.now) c.args.parts.now c.loop-part.part-index _ _
      _ c.put_part.new.listing.buffer _ _ _ c.loop-part-test.true (c.loop-part.invariant.gave bytes items is)
      (c.in_default.ensures.gives bytes items (read_still (g.D.Disk.told c.args.disk.now)
      (g.D.Disk.told c.loop-part.disk) c.args.file.name.now c.args.file.front.now bytes items
      c.loop-part.invariant.same is));
}

pub returns-clause-gives : goal.returns-clause-gives
returns-clause-gives g c = λ bytes items is.
    subst (λ t. Buffers c.args.listing.now.buffer t c.loop-part.listing.buffer (g.O.Sink.given c.args.out.now)
    (g.O.Sink.given c.loop-part.out)) (ap (flat_map (data_text (shown_file c.args.file items) c.args.delta.now))
    (take_all c.args.parts.now c.loop-part.part-index c.loop-part-test.false))
    (c.loop-part.invariant.gave bytes items is)
