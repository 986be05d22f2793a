use Rattle.sccs_writers.proofs.PutLaws.{puts_left, puts_then, same_text}
use Rattle.sccs_writers.specs.HeaderBytes.{header_bytes}
use Rattle.sccs_writers.proofs.HeaderLaws.{header_parts}
use Rattle.sccs_writers.proofs.header_writers.put_header.Goals as goal

pub returns-in_err-put_part : goal.returns-in_err-put_part
returns-in_err-put_part g c = puts_left (header_bytes c.args.header.now) c.in_err-put_part.field-0.0
    c.in_err-put_part.was c.from_residual-in_err-put_part.ensures.1
    (puts_then c.in_ok-put_table.field-0 c.in_ok-put_table.was c.put_table.ensures c.put_part.ensures)

pub returns-in_err-put_flags : goal.returns-in_err-put_flags
returns-in_err-put_flags g c = puts_left (header_bytes c.args.header.now) c.in_err-put_flags.field-0.0
    c.in_err-put_flags.was c.from_residual-in_err-put_flags.ensures.1
    (puts_then c.in_ok-put_table.field-0 c.in_ok-put_table.was c.put_table.ensures
    (puts_then c.in_ok-put_part.field-0 c.in_ok-put_part.was c.put_part.ensures c.put_flags.ensures))

pub returns : goal.returns
returns g c = same_text (header_parts c.args.header.now) (puts_then c.in_ok-put_table.field-0 c.in_ok-put_table.was
    c.put_table.ensures (puts_then c.in_ok-put_part.field-0 c.in_ok-put_part.was c.put_part.ensures
    (puts_then c.in_ok-put_flags.field-0 c.in_ok-put_flags.was c.put_flags.ensures c.put_part-2.ensures)))
