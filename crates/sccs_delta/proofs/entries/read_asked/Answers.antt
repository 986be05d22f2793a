use Rattle.std.proofs.lemmas.Result.{err_from_is_err_and}
use Rattle.sccs_delta.proofs.PrepareLaws.{no_entry, no_orders}
use Rattle.sccs_delta.proofs.entries.read_asked.Goals as goal

pub returns-in_err-chosen-clause-value : goal.returns-in_err-chosen-clause-value
returns-in_err-chosen-clause-value c =
    let p = err_from_is_err_and c.from_residual.result c.from_residual.ensures.1 in
    rw (p.1, p.2) (no_entry c.args.words.now c.args.stamp.now c.args.pending.now.front.header c.args.pending.now.edits
    c.args.script.now c.in_err-chosen.field-0.0 c.in_err-chosen.ensures.value)

pub returns-clause-value : goal.returns-clause-value
returns-clause-value c = (c.in_ok-chosen.ensures.value, c.in_ok-script.ensures.value)

pub returns-in_err-script-clause-value : goal.returns-in_err-script-clause-value
returns-in_err-script-clause-value c =
    let p = err_from_is_err_and c.from_residual-in_err-script.result c.from_residual-in_err-script.ensures.1 in
    rw (p.1, p.2) (no_orders c.args.words.now c.args.stamp.now c.args.pending.now.front.header c.args.pending.now.edits
    c.args.script.now c.in_ok-chosen.chosen c.in_err-script.field-0.0 c.in_ok-chosen.ensures.value
    c.in_err-script.ensures.value)
