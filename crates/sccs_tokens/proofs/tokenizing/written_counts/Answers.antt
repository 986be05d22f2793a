use Rattle.std.proofs.Common.{sym, ◌∙◌}
use Rattle.sccs_tokens.proofs.FiveDigitLaws.{counts_are}
use Rattle.sccs_tokens.proofs.tokenizing.written_counts.Goals as goal

pub returns-then-is_empty : goal.returns-then-is_empty
returns-then-is_empty c =
    counts_are c.args.bytes.now c.in_ok-word.word.now c.in_ok-inserted.rest.now c.in_ok-behind.field-0.now
    c.in_ok-deleted.rest.now c.in_ok-behind-2.field-0.now c.in_ok-unchanged.rest.now
    c.in_ok-inserted.inserted c.in_ok-deleted.deleted c.in_ok-unchanged.unchanged
    c.in_ok-word.ensures c.in_ok-inserted.ensures c.in_ok-behind.ensures c.in_ok-deleted.ensures
    c.in_ok-behind-2.ensures c.in_ok-unchanged.ensures (sym c.is_empty.ensures ∙ c.if-is_empty.true)
