use Rattle.std.proofs.Common.{◌≤◌, take, flat_map}
use Rattle.sccs_base.specs.Stream.{Buffers}
use Rattle.sccs_base.proofs.output_buffers.OutputBuffer.give_parts.Given as goal

-- the parts so far went to the sink or are held
abbrev pub invariant-loop-part : goal.invariant-loop-part
invariant-loop-part g l = record {
  taken : Buffers l.fn.self (flat_map (λ p. p.now) (take l.part-index l.parts)) l.self (g.S.Sink.given l.fn.out)
      (g.S.Sink.given l.out);
  later : g.S.Sink.faults l.fn.out ≤ g.S.Sink.faults l.out;
}
