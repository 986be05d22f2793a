use Rattle.std.proofs.Common.{arith}
use Rattle.sccs_summary.specs.Summaries.{choice_of, live_text}
use Rattle.sccs_summary.proofs.Giving.{cut_given, item_causes, next_given}
use Rattle.sccs_summary.proofs.printing.print_summary.Goals as goal

pub returns-in-Err-clause-gives : goal.returns-in-Err-clause-gives
returns-in-Err-clause-gives g c =
    cut_given (live_text (choice_of c.args.choices)) c.args.records.now c.loop-delta.delta-index c.delta-item.result
    c.delta-item.result c.in-Err.fault _ (g.O.Sink.given c.loop-delta.out) _ c.loop-delta-test.true c.delta-item.is
    c.loop-delta.invariant.gave c.in-Err.ensures.gives

pub returns-in-Err-clause-causes : goal.returns-in-Err-clause-causes
returns-in-Err-clause-causes g c = λ disk. item_causes c.in-Err.fault _ (g.O.Sink.faults c.loop-delta.out) _ disk
    c.loop-delta.invariant.later (c.in-Err.ensures.causes disk)

pub loop-delta-preserved : goal.loop-delta-preserved
loop-delta-preserved g c = record {
  later = omega (arith, c.loop-delta.invariant.later, (c.give_entry.ensures.causes 0).out_later);
  gave = next_given (live_text (choice_of c.args.choices)) c.args.records.now c.loop-delta.delta-index
      c.delta-item.result c.delta-item.result _ (g.O.Sink.given c.loop-delta.out) _ c.loop-delta-test.true
      c.delta-item.is c.loop-delta.invariant.gave c.in_default.ensures.gives;
}
