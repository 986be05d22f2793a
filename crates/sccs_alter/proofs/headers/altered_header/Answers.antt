use Rattle.std.proofs.lemmas.Result.{err_from_is_err_and}
use Rattle.sccs_alter.proofs.HeaderLaws.{all_altered, description_ends, flags_end}
use Rattle.sccs_alter.proofs.headers.altered_header.Goals as goal

pub returns-in_err-description-clause-value : goal.returns-in_err-description-clause-value
returns-in_err-description-clause-value c =
    let p = err_from_is_err_and c.from_residual.result c.from_residual.ensures.1 in
    rw (p.1, p.2) (description_ends c.args.words.now c.args.header c.args.text.now c.in_err-description.field-0.0
    c.in_err-description.ensures.value)

pub returns-in_err-flags-clause-value : goal.returns-in_err-flags-clause-value
returns-in_err-flags-clause-value c =
    let p = err_from_is_err_and c.from_residual-in_err-flags.result c.from_residual-in_err-flags.ensures.1 in
    rw (p.1, p.2) (flags_end c.args.words.now c.args.header c.args.text.now c.in_ok-description.description
    c.in_err-flags.field-0.0 c.in_ok-description.ensures.value c.in_err-flags.ensures.value)

pub returns-clause-value : goal.returns-clause-value
returns-clause-value c =
    all_altered c.args.words.now c.args.header c.args.text.now c.in_ok-description.description c.in-Ok.users
    c.in_ok-flags.flags c.in_ok-description.ensures.value c.in_ok-flags.ensures.value c.in-Ok.ensures
