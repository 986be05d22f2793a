use Rattle.sccs_writers.proofs.PutLaws.{puts_left, puts_then, same_text}
use Rattle.sccs_tokens.specs.Written.{delta_line, ended}
use Rattle.sccs_writers.proofs.HeaderLaws.{delta_parts}
use Rattle.sccs_writers.proofs.header_writers.put_delta.Goals as goal

pub returns-in_err-put_sid : goal.returns-in_err-put_sid
returns-in_err-put_sid g c = puts_left (ended (delta_line c.args.entry.now)) c.in_err-put_sid.field-0.0
    c.in_err-put_sid.was c.from_residual-in_err-put_sid.ensures.1 (puts_then c.in_ok-put.field-0 c.in_ok-put.was
    (same_text c.kind.ensures c.put.ensures) c.put_sid.ensures)

pub returns : goal.returns
returns g c = same_text (delta_parts c.args.entry.now c.text.result c.text.ensures)
    (puts_then c.in_ok-put.field-0 c.in_ok-put.was (same_text c.kind.ensures c.put.ensures)
    (puts_then c.in_ok-put_sid.field-0 c.in_ok-put_sid.was c.put_sid.ensures c.put_delta_words.ensures))
