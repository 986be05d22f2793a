use Rattle.sccs_writers.proofs.PutLaws.{puts_left, puts_nothing, puts_then, same_text}
use Rattle.std.proofs.Common.{◌∙◌, sym}
use Rattle.sccs_tokens.specs.Written.{bytes_of, list_lines}
use Rattle.sccs_writers.proofs.HeaderLaws.{list_of_none, list_of_some}
use Rattle.sccs_writers.proofs.header_writers.put_list.Goals as goal

pub returns-then-len-eq0 : goal.returns-then-len-eq0
returns-then-len-eq0 g c = same_text (list_of_none c.args.letter c.args.serials.now (sym c.len.ensures
    ∙ c.if-len-eq0.true)) (puts_nothing c.args.out.now _ _)

pub returns-in_err-put_serials : goal.returns-in_err-put_serials
returns-in_err-put_serials g c = puts_left (bytes_of (list_lines c.args.letter c.args.serials.now))
    c.in_err-put_serials.field-0.0 c.in_err-put_serials.was c.from_residual-in_err-put_serials.ensures.1
    (puts_then c.in_ok-put.field-0 c.in_ok-put.was c.put.ensures c.put_serials.ensures)

pub returns : goal.returns
returns g c = same_text (list_of_some c.args.letter c.args.serials.now (λ none. c.if-len-eq0.false (c.len.ensures
    ∙ none))) (puts_then c.in_ok-put.field-0 c.in_ok-put.was c.put.ensures
    (puts_then c.in_ok-put_serials.field-0 c.in_ok-put_serials.was c.put_serials.ensures c.put-2.ensures))
