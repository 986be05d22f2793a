use Rattle.std.proofs.lemmas.Result.{err_from_is_err_and}
use Rattle.std.proofs.Common.{◌≡◌, true, List, Some, subst, sym, ◌∙◌}
use Rattle.sccs_history.specs.Applied.{serials_of}
use Rattle.sccs_history.specs.Numbers.{has}
use Rattle.sccs_history.specs.declared.headers.Record.{Record}
use Rattle.sccs_sets.specs.Sets.{sid_at}
use Rattle.sccs_sets.proofs.Lookups.{live_there}
use Rattle.sccs_get.proofs.EditLaws.{entry_made, free_unlive, free_valid, not_asked, not_free, not_let_in}
use Rattle.sccs_get.proofs.EntrySids.{sid_there}
use Rattle.sccs_get.proofs.new_entries.new_entry.Goals as goal

pub returns-then-not-is_allowed-clause-value : goal.returns-then-not-is_allowed-clause-value
returns-then-not-is_allowed-clause-value c = not_let_in c.args.words.now c.args.stamp.now c.args.header.now
    c.args.edits.now c.args.in_the_way (sym c.is_allowed.ensures ∙ c.if-not-is_allowed.true)

pub returns-in_err-asked-clause-value : goal.returns-in_err-asked-clause-value
returns-in_err-asked-clause-value c =
    let p = err_from_is_err_and c.from_residual.result c.from_residual.ensures.1 in
    rw (p.1, p.2) (not_asked c.args.words.now c.args.stamp.now c.args.header.now c.args.edits.now c.args.in_the_way
    c.in_err-asked.field-0.0 (sym c.is_allowed.ensures ∙ c.if-not-is_allowed.false) c.in_err-asked.ensures.value)

pub sid_at-got-requires : goal.sid_at-got-requires
sid_at-got-requires c = subst (λ (rs : List Record). has (serials_of rs) c.in_ok-asked.asked.target ≡ true)
    (sym c.items.ensures) (live_there c.args.header.now.records c.in_ok-asked.asked.target c.in_ok-asked.ensures.live)

pub returns-in_err-made-clause-value : goal.returns-in_err-made-clause-value
returns-in_err-made-clause-value c =
    let p = err_from_is_err_and c.from_residual-in_err-made.result c.from_residual-in_err-made.ensures.1 in
    rw (p.1, p.2) (not_free c.args.words.now c.args.stamp.now c.args.header.now c.args.edits.now c.args.in_the_way
    c.in_ok-asked.asked c.sid_at-got.result c.in-Ok.made c.in_err-made.field-0.0 (sym c.is_allowed.ensures
    ∙ c.if-not-is_allowed.false) c.in_ok-asked.ensures.value
    (subst (λ (rs : List Record). sid_at rs c.in_ok-asked.asked.target ≡ Some c.sid_at-got.result) c.items.ensures
    c.sid_at-got.ensures) c.in-Ok.ensures.value c.in_err-made.ensures.value)

pub entry-requires-clause-got : goal.entry-requires-clause-got
entry-requires-clause-got c = sid_there c.args.header.now.records c.in_ok-asked.asked.target c.sid_at-got.result
    c.requires.spelled.records (subst (λ (rs : List Record). sid_at rs c.in_ok-asked.asked.target
    ≡ Some c.sid_at-got.result) c.items.ensures c.sid_at-got.ensures)

pub entry-requires-clause-made : goal.entry-requires-clause-made
entry-requires-clause-made c =
    free_valid c.args.words.now c.args.header.now c.args.edits.now c.args.in_the_way c.in_ok-asked.asked.target
    c.sid_at-got.result c.in-Ok.made c.in_ok-made.made c.requires.spelled c.in-Ok.ensures.valid
    (subst (λ (rs : List Record). sid_at rs c.in_ok-asked.asked.target ≡ Some c.sid_at-got.result) c.items.ensures
    c.sid_at-got.ensures) c.in-Ok.ensures.value c.in_ok-made.ensures.value

pub returns-in-Ok-entry-clause-value : goal.returns-in-Ok-entry-clause-value
returns-in-Ok-entry-clause-value c =
    entry_made c.args.words.now c.args.stamp.now c.args.header.now c.args.edits.now c.args.in_the_way
    c.in_ok-asked.asked c.sid_at-got.result c.in-Ok.made c.in_ok-made.made c.in-Ok-entry.edit
    (sym c.is_allowed.ensures ∙ c.if-not-is_allowed.false) c.in_ok-asked.ensures.value
    (subst (λ (rs : List Record). sid_at rs c.in_ok-asked.asked.target ≡ Some c.sid_at-got.result) c.items.ensures
    c.sid_at-got.ensures) c.in-Ok.ensures.value c.in_ok-made.ensures.value c.in-Ok-entry.ensures.value

pub returns-in-Ok-entry-clause-free : goal.returns-in-Ok-entry-clause-free
returns-in-Ok-entry-clause-free c =
    free_unlive c.args.words.now c.args.header.now c.args.edits.now c.args.in_the_way c.in_ok-asked.asked.target
    c.sid_at-got.result c.in-Ok.made c.in_ok-made.made c.in-Ok-entry.edit c.args.stamp.now c.in_ok-asked.asked
    c.in-Ok.ensures.value c.in_ok-made.ensures.value c.in-Ok-entry.ensures.value
