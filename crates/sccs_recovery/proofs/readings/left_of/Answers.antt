use Rattle.std.proofs.Common.{Ok, Some, ap, sym, ◌∙◌}
use Rattle.sccs_recovery.specs.Checks.{table_in}
use Rattle.sccs_recovery.proofs.ReadingLaws.{left_recovers}
use Rattle.sccs_recovery.proofs.readings.left_of.Goals as goal

pub returns-in-Some-clause-left : goal.returns-in-Some-clause-left
returns-in-Some-clause-left c = λ s p table read. left_recovers s p c.items.result.now c.args.edits
    c.entries_left.result (table ∙ (ap (λ f. Ok (table_in f)) c.in-Some.is ∙ ap (λ l. Ok (Some l))
    (sym c.items.ensures))) read c.entries_left.ensures.left
