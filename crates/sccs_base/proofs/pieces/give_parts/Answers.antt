use Rattle.std.proofs.Common.{rules}
use Rattle.sccs_base.proofs.Runs.{some_of_pieces}
use Rattle.sccs_base.proofs.pieces.give_parts.Goals as goal

pub returns-in_default : goal.returns-in_default
returns-in_default g c =
    record {
      ok = search rules;
      err = some_of_pieces (λ p. p.now) (g.S.Sink.given c.args.sink.now) (g.S.Sink.given c.loop-part.sink)
          (g.S.Sink.given c.give.new.self) c.args.parts.now c.loop-part.part-index _ c.loop-part-test.true
          c.loop-part.invariant.0 c.in_default.ensures.err;
      later = search rules;
      cause = search rules;
    }
