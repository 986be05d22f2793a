use Rattle.std.proofs.Common.{◌≡◌, ◌≤◌, take, length}
use Rattle.sccs_sid.specs.Words.{drop_blanks}
use Rattle.sccs_sid.proofs.words.drop_blanks.Given as goal

-- what stands from the place on are blanks
abbrev pub invariant-blanks : goal.invariant-blanks
invariant-blanks l = (l.end ≤ length l.bytes) × (drop_blanks (take l.end l.bytes) ≡ drop_blanks l.bytes)

abbrev pub decreases-blanks : goal.decreases-blanks
decreases-blanks l = l.end
