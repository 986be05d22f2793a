use Rattle.sccs_writers.proofs.PutLaws.{puts_then}
use Rattle.sccs_rcs.proofs.bodies.put_opens.Goals as goal

pub returns : goal.returns
returns g c = puts_then c.in_ok-put.field-0 c.in_ok-put.was c.put.ensures c.put_delete.ensures
