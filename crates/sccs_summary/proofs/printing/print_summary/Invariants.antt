use Rattle.std.proofs.Common.{◌≤◌, take, flat_map}
use Rattle.sccs_base.specs.Stream.{GivesOk}
use Rattle.sccs_summary.specs.Summaries.{choice_of, live_text}
use Rattle.sccs_summary.proofs.printing.print_summary.Given as goal

-- the deltas so far were given, and no count fell
abbrev pub invariant-loop-delta : goal.invariant-loop-delta
invariant-loop-delta g l = record {
  later : g.O.Sink.faults l.fn.out ≤ g.O.Sink.faults l.out;
  gave : GivesOk (g.O.Sink.given l.fn.out) (g.O.Sink.given l.out) (flat_map (live_text (choice_of l.fn.choices))
      (take l.delta-index l.records));
}
