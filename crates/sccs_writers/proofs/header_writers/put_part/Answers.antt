use Rattle.sccs_writers.proofs.PutLaws.{puts_left, puts_then}
use Rattle.std.proofs.Common.{◌++◌, flat_map}
use Rattle.sccs_tokens.specs.Written.{ended}
use Rattle.sccs_writers.proofs.header_writers.put_part.Goals as goal

pub returns-in_err-put_lines : goal.returns-in_err-put_lines
returns-in_err-put_lines g c = puts_left (c.args.first.now ++ (flat_map ended c.args.lines.now ++ c.args.last.now))
    c.in_err-put_lines.field-0.0 c.in_err-put_lines.was c.from_residual-in_err-put_lines.ensures.1
    (puts_then c.in_ok-put.field-0 c.in_ok-put.was c.put.ensures c.put_lines.ensures)

pub returns : goal.returns
returns g c = puts_then c.in_ok-put.field-0 c.in_ok-put.was c.put.ensures
    (puts_then c.in_ok-put_lines.field-0 c.in_ok-put_lines.was c.put_lines.ensures c.put-2.ensures)
