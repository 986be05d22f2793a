use Rattle.std.proofs.Common.{◌≡◌, ◌+◌, length}
use Rattle.sccs_trunks.specs.TrunkHistories.{first_with_soh}
use Rattle.sccs_rcs_file.proofs.texts.first_with_soh.Given as goal

abbrev pub invariant-lines : goal.invariant-lines
invariant-lines l = (first_with_soh l.number l.rest ≡ first_with_soh 1 l.fn.text)
    × (l.number + length l.rest ≡ 1 + length l.fn.text)

abbrev pub decreases-lines : goal.decreases-lines
decreases-lines l = length l.rest
