use Rattle.std.proofs.Common.{◌∙◌, Err, ap, sym}
use Rattle.std.proofs.lemmas.Result.{err_from_is_err_and}
use Rattle.sccs_table.proofs.FrontLaws.{line_refused, token_accepted, token_nothing}
use Rattle.sccs_table.proofs.fronts.with_line.Goals as goal

pub returns-in_err-accept-in-Ok-Some : goal.returns-in_err-accept-in-Ok-Some
returns-in_err-accept-in-Ok-Some c =
    let p = err_from_is_err_and c.from_residual.result c.from_residual.ensures.1 in
    line_refused c.args.number c.args.parser.now c.accept.new.parser c.args.line.now c.in-Ok-Some.token
    c.in_err-accept-in-Ok-Some.field-0.0 c.from_residual.result (sym c.in-Ok-Some.ensures ∙ c.in-Ok-Some.field-0-is)
    c.in_err-accept-in-Ok-Some.ensures (p.1 ∙ ap Err p.2)

pub returns-in_ok-accept-in-Ok-Some : goal.returns-in_ok-accept-in-Ok-Some
returns-in_ok-accept-in-Ok-Some c = token_accepted c.args.number c.args.parser.now c.accept.new.parser c.args.line.now
    c.in-Ok-Some.token (sym c.in-Ok-Some.ensures ∙ c.in-Ok-Some.field-0-is) c.in_ok-accept-in-Ok-Some.ensures

pub returns-in-Ok-None : goal.returns-in-Ok-None
returns-in-Ok-None c = token_nothing c.args.number c.args.parser.now c.args.line.now (sym c.in-Ok-None.ensures
    ∙ c.in-Ok-None.field-0-is)
