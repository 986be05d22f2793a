use Rattle.std.proofs.Common.{◌≡◌, drop}
use Rattle.sccs_grammar.specs.Front.{dangling_predecessor}
use Rattle.sccs_grammar.proofs.tables.dangling_predecessor.Given as goal

-- none is dangling_predecessor so far
abbrev pub invariant-loop-at : goal.invariant-loop-at
invariant-loop-at l = dangling_predecessor l.table l.table l.lines ≡ dangling_predecessor l.table (drop l.at l.table)
    (drop l.at l.lines)
