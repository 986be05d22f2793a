use Rattle.std.proofs.Common.{sym, ◌∙◌}
use Rattle.sccs_intents.proofs.Turns.{more_behind, nothing_behind}
use Rattle.sccs_intents.proofs.reading.closed.Goals as goal
use Rattle.sccs_base.proofs.SameBytes.{no_bytes}

pub returns-then-is_empty : goal.returns-then-is_empty
returns-then-is_empty c = nothing_behind c.args.number c.args.entries c.args.rest.now (no_bytes c.args.rest.now
    (sym c.is_empty.ensures ∙ c.if-is_empty.true))

pub returns-else-is_empty : goal.returns-else-is_empty
returns-else-is_empty c = more_behind c.args.number c.args.entries c.args.rest.now (sym c.is_empty.ensures
    ∙ c.if-is_empty.false)
