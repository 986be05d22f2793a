use Rattle.std.proofs.Common.{◌≡◌, drop}
use Rattle.sccs_sid.specs.Words.{skip_blanks}
use Rattle.sccs_sid.proofs.words.skip_blanks.Given as goal

-- what stands before the place is passed over
abbrev pub invariant-loop-at : goal.invariant-loop-at
invariant-loop-at l = skip_blanks (drop l.at l.bytes) ≡ skip_blanks l.bytes
