use Rattle.std.proofs.Common.{◌≡◌, ◌+◌, ◌≤◌, length}
use Rattle.std.specs.List.{All}
use Rattle.sccs_pfile.specs.Entries.{IsEdit}
use Rattle.sccs_pfile.specs.Reading.{edits_of, entries_at}
use Rattle.sccs_pfile.proofs.Turns.{behind_edits}
use Rattle.sccs_pfile.proofs.reading.read_edits.Given as goal

-- the entries so far and those of the rest are all
abbrev pub invariant-lines : goal.invariant-lines
invariant-lines l = record {
  same : behind_edits l.edits (entries_at l.number l.rest) ≡ edits_of l.fn.bytes;
  short : l.number + length l.rest ≤ 1 + length l.fn.bytes;
  valid : All IsEdit l.edits;
}

abbrev pub decreases-lines : goal.decreases-lines
decreases-lines l = length l.rest
