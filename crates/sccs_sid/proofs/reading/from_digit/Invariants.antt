use Rattle.std.proofs.Common.{◌≡◌, drop}
use Rattle.sccs_sid.specs.Reading.{from_digit}
use Rattle.sccs_sid.proofs.reading.from_digit.Given as goal

-- what stands before the place is passed over
abbrev pub invariant-loop-at : goal.invariant-loop-at
invariant-loop-at l = from_digit (drop l.at l.bytes) ≡ from_digit l.bytes
