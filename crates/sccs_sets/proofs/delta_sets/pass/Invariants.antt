use Rattle.std.proofs.Common.{drop, option_map}
use Rattle.sccs_sets.proofs.Passing.{IsAt}
use Rattle.sccs_sets.proofs.delta_sets.pass.Given as goal

abbrev pub invariant-loop-record : goal.invariant-loop-record
invariant-loop-record l =
    IsAt (record {
      target = l.fn.target;
      include = l.fn.include;
      exclude = l.fn.exclude;
      cutoff =
          option_map (λ m. m.seconds) l.fn.cutoff;
    }) l.records (drop l.record-index l.records) l.wanted l.marks l.set
