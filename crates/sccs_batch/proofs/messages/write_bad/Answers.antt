use Rattle.std.proofs.Common.{ℕ, List, ◌++◌, codes, subst, ◌∙◌}
use Rattle.sccs_base.specs.Causes.{GivesText}
use Rattle.sccs_batch.proofs.messages.write_bad.Goals as goal

pub returns : goal.returns
returns g c =
    subst (λ (digits : List ℕ). GivesText (codes "BATCH: line " ++ (digits ++ codes "\n"))
    (g.S.Sink.given c.args.out.now) (g.S.Sink.given c.give_parts.new.sink) (g.S.Sink.faults c.args.out.now)
    (g.S.Sink.faults c.give_parts.new.sink) c.give_parts.result)
    (c.as_bytes-digits.ensures.value ∙ c.format.ensures.text) c.give_parts.ensures
