use Rattle.std.proofs.Common.{take, flat_map}
use Rattle.sccs_tokens.specs.Written.{ended}
use Rattle.sccs_prs.proofs.GiveLists.{HasGiven}
use Rattle.sccs_prs.proofs.lists.give_lines.Given as goal

-- what stands for the items so far was given
abbrev pub invariant-loop-line : goal.invariant-loop-line
invariant-loop-line g l = HasGiven (flat_map (ended) (take l.line-index l.lines)) (g.S.Sink.given l.fn.out)
    (g.S.Sink.given l.out) (g.S.Sink.faults l.fn.out) (g.S.Sink.faults l.out)
