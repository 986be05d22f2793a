use Rattle.std.proofs.Common.{◌≤◌, take, flat_map}
use Rattle.sccs_base.specs.Stream.{GivesOk}
use Rattle.sccs_base.proofs.pieces.give_parts.Given as goal

-- the parts so far are given
abbrev pub invariant-loop-part : goal.invariant-loop-part
invariant-loop-part g l =
    (GivesOk (g.S.Sink.given l.fn.sink) (g.S.Sink.given l.sink) (flat_map (λ p. p.now) (take l.part-index l.parts)))
    × (g.S.Sink.faults l.fn.sink ≤ g.S.Sink.faults l.sink)
