use Rattle.sccs_writers.proofs.PutLaws.{puts_left, puts_then}
use Rattle.sccs_writers.specs.HeaderBytes.{texts_bytes}
use Rattle.sccs_writers.proofs.header_writers.put_texts.Goals as goal

pub returns-in_err-put_lines : goal.returns-in_err-put_lines
returns-in_err-put_lines g c = puts_left (texts_bytes c.args.entry.now) c.in_err-put_lines.field-0.0
    c.in_err-put_lines.was c.from_residual-in_err-put_lines.ensures.1
    (puts_then c.in_ok-put_mrs.field-0 c.in_ok-put_mrs.was c.put_mrs.ensures c.put_lines.ensures)

pub returns : goal.returns
returns g c = puts_then c.in_ok-put_mrs.field-0 c.in_ok-put_mrs.was c.put_mrs.ensures
    (puts_then c.in_ok-put_lines.field-0 c.in_ok-put_lines.was c.put_lines.ensures c.put.ensures)
