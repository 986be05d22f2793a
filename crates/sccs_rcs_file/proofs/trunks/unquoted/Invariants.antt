use Rattle.std.proofs.Common.{◌≡◌, ◌++◌, length}
use Rattle.sccs_rcs_file.specs.Trunk.{unquoted}
use Rattle.sccs_rcs_file.proofs.trunks.unquoted.Given as goal

abbrev pub invariant-bytes : goal.invariant-bytes
invariant-bytes l = l.bytes.items ++ unquoted l.rest ≡ unquoted l.fn.raw

abbrev pub decreases-bytes : goal.decreases-bytes
decreases-bytes l = length l.rest
