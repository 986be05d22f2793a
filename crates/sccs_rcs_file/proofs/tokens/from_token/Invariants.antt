use Rattle.std.proofs.Common.{◌≡◌, ◌≤◌, length}
use Rattle.sccs_rcs_file.specs.Tokens.{from_token}
use Rattle.sccs_rcs_file.proofs.tokens.from_token.Given as goal

abbrev pub invariant-gaps : goal.invariant-gaps
invariant-gaps l = (from_token l.rest ≡ from_token l.fn.bytes) × (length l.rest ≤ length l.fn.bytes)

abbrev pub decreases-gaps : goal.decreases-gaps
decreases-gaps l = length l.rest
