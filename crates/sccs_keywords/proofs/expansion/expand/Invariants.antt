use Rattle.std.proofs.Common.{◌≡◌, ℕ, ◌-◌, ◌≤◌, List, ◌++◌, length, drop}
use Rattle.sccs_base.specs.Stream.{GivesOk}
use Rattle.sccs_keywords.specs.Expansion.{expanded}
use Rattle.sccs_keywords.proofs.expansion.expand.Given as goal

-- what was given, and the expansion of the rest make that of the line
abbrev pub invariant-keywords : goal.invariant-keywords
invariant-keywords g l =
    (done : List ℕ) × GivesOk (g.S.Sink.given l.fn.out) (g.S.Sink.given l.out) done
    × (done ++ expanded l.facts l.number (drop l.from l.line) ≡ expanded l.facts l.number l.line)
    × (l.from ≤ length l.line)
    × (g.S.Sink.faults l.fn.out ≤ g.S.Sink.faults l.out)

abbrev pub decreases-keywords : goal.decreases-keywords
decreases-keywords g l = length l.line - l.from
