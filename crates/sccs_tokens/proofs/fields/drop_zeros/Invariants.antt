use Rattle.std.proofs.Common.{◌≡◌, drop}
use Rattle.sccs_tokens.specs.Tokens.{drop_zeros}
use Rattle.sccs_tokens.proofs.fields.drop_zeros.Given as goal

-- what stands before the place is passed over
abbrev pub invariant-loop-at : goal.invariant-loop-at
invariant-loop-at l = drop_zeros (drop l.at l.bytes) ≡ drop_zeros l.bytes
