use Rattle.std.proofs.Common.{take, flat_map, ◌∷◌}
use Rattle.std.specs.Prelude.{decimal}
use Rattle.sccs_prs.proofs.GiveLists.{HasGiven}
use Rattle.sccs_prs.proofs.lists.give_more.Given as goal

-- what stands for the items so far was given
abbrev pub invariant-loop-serial : goal.invariant-loop-serial
invariant-loop-serial g l = HasGiven (flat_map (λ n. 32 ∷ decimal n) (take l.serial-index l.serials))
    (g.S.Sink.given l.fn.out) (g.S.Sink.given l.out) (g.S.Sink.faults l.fn.out) (g.S.Sink.faults l.out)
