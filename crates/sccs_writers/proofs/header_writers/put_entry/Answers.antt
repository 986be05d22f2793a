use Rattle.sccs_writers.proofs.PutLaws.{puts_left, puts_then}
use Rattle.sccs_writers.specs.HeaderBytes.{entry_bytes}
use Rattle.sccs_writers.proofs.header_writers.put_entry.Goals as goal

pub returns-in_err-put_delta : goal.returns-in_err-put_delta
returns-in_err-put_delta g c = puts_left (entry_bytes c.args.entry.now) c.in_err-put_delta.field-0.0
    c.in_err-put_delta.was c.from_residual-in_err-put_delta.ensures.1
    (puts_then c.in_ok-put_statistics.field-0 c.in_ok-put_statistics.was c.put_statistics.ensures c.put_delta.ensures)

pub returns-in_err-put_lists : goal.returns-in_err-put_lists
returns-in_err-put_lists g c = puts_left (entry_bytes c.args.entry.now) c.in_err-put_lists.field-0.0
    c.in_err-put_lists.was c.from_residual-in_err-put_lists.ensures.1
    (puts_then c.in_ok-put_statistics.field-0 c.in_ok-put_statistics.was c.put_statistics.ensures
    (puts_then c.in_ok-put_delta.field-0 c.in_ok-put_delta.was c.put_delta.ensures c.put_lists.ensures))

pub returns : goal.returns
returns g c = puts_then c.in_ok-put_statistics.field-0 c.in_ok-put_statistics.was c.put_statistics.ensures
    (puts_then c.in_ok-put_delta.field-0 c.in_ok-put_delta.was c.put_delta.ensures
    (puts_then c.in_ok-put_lists.field-0 c.in_ok-put_lists.was c.put_lists.ensures c.put_texts.ensures))
