use Rattle.std.proofs.Common.{◌≡◌, ◌≤◌, ◌+◌, ◌-◌, drop, length}
use Rattle.sccs_group_command.specs.GroupText.{group_from, group_of}
use Rattle.sccs_group_command.proofs.reading.read_group.Given as goal

-- the lines from here on, behind the entries so far, are read as all of them
abbrev pub invariant-entries : goal.invariant-entries
invariant-entries l = record {
  read : group_from 0 (l.at + 1) l.entries (drop l.at l.lines) ≡ group_of l.lines;
  within : l.at ≤ length l.lines;
}

abbrev pub decreases-entries : goal.decreases-entries
decreases-entries l = length l.lines - l.at
