use Rattle.std.proofs.Common.{◌≡◌, length}
use Rattle.sccs_rcs_file.specs.Reading.{file_of, read_on}
use Rattle.sccs_rcs_file.specs.Tokens.{lexemes}
use Rattle.sccs_rcs_file.proofs.reading.read_file.Given as goal

-- reading on gives what reading the whole file gives
abbrev pub invariant-tokens : goal.invariant-tokens
invariant-tokens l = read_on l.state (lexemes l.rest) ≡ file_of l.fn.bytes

abbrev pub decreases-tokens : goal.decreases-tokens
decreases-tokens l = length l.rest
