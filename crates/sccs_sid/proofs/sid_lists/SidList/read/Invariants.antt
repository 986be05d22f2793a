use Rattle.std.proofs.Common.{◌≡◌, ◌≤◌, length}
use Rattle.std.specs.List.{All}
use Rattle.sccs_sid.specs.SidLists.{IsRange, list_of}
use Rattle.sccs_sid.proofs.ListTurns.{to_read}
use Rattle.sccs_sid.proofs.sid_lists.SidList.read.Given as goal

-- the ranges so far and those of the rest are the list
abbrev pub invariant-pieces : goal.invariant-pieces
invariant-pieces l = record {
  same : to_read l.bytes l.ranges l._turn l.rest ≡ list_of l.fn.bytes;
  short : length l.rest ≤ length l.bytes;
  valid : All IsRange l.ranges;
}
