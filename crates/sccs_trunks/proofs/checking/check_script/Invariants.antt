use Rattle.std.proofs.Common.{◌≡◌, ◌≤◌, ◌+◌, length}
use Rattle.sccs_trunks.specs.Lengths.{IsPlace, read_on}
use Rattle.sccs_trunks.proofs.checking.check_script.Given as goal

-- reading on from here gives what reading the whole script gives
abbrev pub invariant-lines : goal.invariant-lines
invariant-lines l =
    IsPlace l.fn.lines (length l.rest) l.place
    × (l.place.added + length l.rest ≤ length l.fn.script)
    × (read_on l.fn.lines l.place l.rest ≡ read_on l.fn.lines (record { last = 0; taken = 0; added = 0; struck = 0 })
    l.fn.script)

abbrev pub decreases-lines : goal.decreases-lines
decreases-lines l = length l.rest
