use Rattle.std.proofs.Common.{ℕ, List, ◌++◌, codes, subst, ◌∙◌}
use Rattle.sccs_base.specs.Causes.{GivesText}
use Rattle.sccs_group_command.proofs.running.write_bad.Goals as goal

pub returns : goal.returns
returns g c =
    subst (λ (digits : List ℕ). GivesText (codes "GROUP: line " ++ (digits ++ codes "\n"))
    (g.S.Sink.given c.args.err.now) (g.S.Sink.given c.give_parts.new.sink) (g.S.Sink.faults c.args.err.now)
    (g.S.Sink.faults c.give_parts.new.sink) c.give_parts.result)
    (c.as_bytes-digits.ensures.value ∙ c.format.ensures.text) c.give_parts.ensures
