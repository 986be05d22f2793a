use Rattle.std.proofs.Common.{◌≡◌, ◌+◌, ◌*◌, ◌^◌, ◌≤◌, length}
use Rattle.sccs_sid.specs.Reading.{digits_after}
use Rattle.sccs_sid.proofs.reading.digits_after.Given as goal

-- what is read from here on is what is read of all, and there is room for the digits that are left
abbrev pub invariant-digits : goal.invariant-digits
invariant-digits l = record {
  same : digits_after l.left l.number l.rest ≡ digits_after l.most l.high l.bytes;
  room : (l.number + 1) * 10 ^ l.left ≤ (l.high + 1) * 10 ^ l.most;
  shorter : length l.rest ≤ length l.bytes;
}

abbrev pub decreases-digits : goal.decreases-digits
decreases-digits l = l.left
