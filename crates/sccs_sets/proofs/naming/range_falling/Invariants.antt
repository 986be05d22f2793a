use Rattle.std.proofs.Common.{◌≡◌, drop, fold, map, reverse}
use Rattle.sccs_sets.specs.Naming.{in_range, sid_named, put_named, range_named}
use Rattle.sccs_sets.specs.Retrieved.{live_where}
use Rattle.sccs_sets.proofs.naming.range_falling.Given as goal

-- what was found, the last one first, and the rest of the records, are all that is found
abbrev pub invariant-loop-record : goal.invariant-loop-record
invariant-loop-record l =
    fold put_named (reverse l.found.items)
    (map sid_named (live_where (in_range l.range) (drop l.record-index l.records))) ≡ range_named l.records l.range
