use Rattle.std.proofs.Common.{take, flat_map}
use Rattle.sccs_tokens.specs.Written.{ended}
use Rattle.sccs_prs.specs.Values.{printed_flag}
use Rattle.sccs_prs.proofs.GiveLists.{HasGiven}
use Rattle.sccs_prs.proofs.lists.give_flags.Given as goal

-- what stands for the items so far was given
abbrev pub invariant-loop-flag : goal.invariant-loop-flag
invariant-loop-flag g l = HasGiven (flat_map (λ f. ended (printed_flag f)) (take l.flag-index l.flags))
    (g.S.Sink.given l.fn.out) (g.S.Sink.given l.out) (g.S.Sink.faults l.fn.out) (g.S.Sink.faults l.out)
