use Rattle.std.proofs.Common.{◌≡◌, ◌≤◌, ◌-◌, drop, take, length}
use Rattle.sccs_rcs_file.specs.Tokens.{string_in, with_raw}
use Rattle.sccs_rcs_file.proofs.tokens.string_in.Given as goal

-- so many bytes of the string came so far
abbrev pub invariant-bytes : goal.invariant-bytes
invariant-bytes l = (l.len ≤ length l.bytes) × (with_raw (take l.len l.bytes) (string_in (drop l.len l.bytes))
    ≡ string_in l.bytes)

abbrev pub decreases-bytes : goal.decreases-bytes
decreases-bytes l = length l.bytes - l.len
