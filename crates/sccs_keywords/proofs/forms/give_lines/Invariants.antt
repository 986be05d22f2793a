use Rattle.std.proofs.Common.{◌≡◌, ℕ, ◌+◌, ◌≤◌, List, [], ◌++◌, length, drop, ◌-◌}
use Rattle.sccs_base.specs.Cut.{cut}
use Rattle.sccs_base.specs.Stream.{GivesOk}
use Rattle.sccs_keywords.specs.Forms.{line_form, formed_lines}
use Rattle.sccs_keywords.proofs.forms.give_lines.Given as goal

-- what was given, and the text of the other lines make that of all
abbrev pub invariant-lines : goal.invariant-lines
invariant-lines g l =
    (done : List ℕ) × GivesOk (g.S.Sink.given l.fn.out) (g.S.Sink.given l.out) done
    × (done ++ formed_lines (line_form l.form) l.fn.sids (l.before + 1) l.inserter (cut (drop l.from l.lines)).lines
    ≡ formed_lines (line_form l.form) l.fn.sids (l.fn.before + 1) l.inserter (cut l.lines).lines)
    × ((cut (drop l.from l.lines)).tail ≡ []) × (l.from ≤ length l.lines)
    × (g.S.Sink.faults l.fn.out ≤ g.S.Sink.faults l.out)
    × (l.before + length (cut (drop l.from l.lines)).lines ≡ l.fn.before + length (cut l.lines).lines)

abbrev pub decreases-lines : goal.decreases-lines
decreases-lines g l = length l.lines - l.from
