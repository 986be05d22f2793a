use Rattle.std.proofs.Common.{◌≡◌, length}
use Rattle.sccs_words.specs.Scan.{letters}
use Rattle.sccs_words.proofs.scanning.letters.Given as goal

-- what is still to be read, after what was read, is the whole
abbrev pub invariant-word : goal.invariant-word
invariant-word l = letters l.options l.number l.uses.items l.rest ≡ letters l.options l.number l.fn.uses.items l.bytes

abbrev pub decreases-word : goal.decreases-word
decreases-word l = length l.rest
