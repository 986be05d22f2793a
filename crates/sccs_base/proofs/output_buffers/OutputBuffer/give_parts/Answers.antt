use Rattle.std.proofs.Common.{rules}
use Rattle.sccs_base.proofs.Gifts.{buffers_part, buffers_part_cut}
use Rattle.sccs_base.proofs.output_buffers.OutputBuffer.give_parts.Goals as goal

pub returns-in_default-clause-err : goal.returns-in_default-clause-err
returns-in_default-clause-err g c =
    buffers_part_cut (λ p. p.now) c.args.parts.now c.loop-part.part-index _ c.args.self.now c.loop-part.self
    (g.S.Sink.given c.args.out.now) (g.S.Sink.given c.loop-part.out) (g.S.Sink.given c.give.new.out)
    c.loop-part-test.true c.loop-part.invariant.taken c.in_default.ensures.err

pub loop-part-preserved : goal.loop-part-preserved
loop-part-preserved g c =
    record {
      taken = buffers_part (λ p. p.now) c.args.parts.now c.loop-part.part-index _ c.args.self.now c.loop-part.self
          c.give.new.self (g.S.Sink.given c.args.out.now) (g.S.Sink.given c.loop-part.out)
          (g.S.Sink.given c.give.new.out) c.loop-part-test.true c.loop-part.invariant.taken c.in-Ok.ensures.ok;
      later = search rules;
    }
