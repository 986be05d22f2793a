use Rattle.std.proofs.Common.{◌≤◌, drop}
use Rattle.sccs_what.specs.Owed.{Searches, work_left}
use Rattle.sccs_what.proofs.searches.search_piece.Given as goal

-- what was searched of the piece so far
abbrev pub invariant-steps : goal.invariant-steps
invariant-steps g l = record {
  so_far : Searches l.first l.piece l.at l.fn.search l.search l.fn.held l.held (g.O.Sink.given l.fn.out)
      (g.O.Sink.given l.out);
  later : g.O.Sink.faults l.fn.out ≤ g.O.Sink.faults l.out;
}

abbrev pub decreases-steps : goal.decreases-steps
decreases-steps g l = work_left l.search (drop l.at l.piece)
