use Rattle.sccs_writers.proofs.PutLaws.{puts_left, puts_then}
use Rattle.sccs_writers.specs.HeaderBytes.{lists_bytes}
use Rattle.sccs_writers.proofs.header_writers.put_lists.Goals as goal

pub returns-in_err-put_list-2 : goal.returns-in_err-put_list-2
returns-in_err-put_list-2 g c = puts_left (lists_bytes c.args.entry.now) c.in_err-put_list-2.field-0.0
    c.in_err-put_list-2.was c.from_residual-in_err-put_list-2.ensures.1
    (puts_then c.in_ok-put_list.field-0 c.in_ok-put_list.was c.put_list.ensures c.put_list-2.ensures)

pub returns : goal.returns
returns g c = puts_then c.in_ok-put_list.field-0 c.in_ok-put_list.was c.put_list.ensures
    (puts_then c.in_ok-put_list-2.field-0 c.in_ok-put_list-2.was c.put_list-2.ensures c.put_list-3.ensures)
