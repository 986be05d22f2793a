use Rattle.sccs_writers.proofs.PutLaws.{puts_nothing, puts_then, same_text}
use Rattle.sccs_rcs.proofs.RunLaws.{both_closed, none_closed}
use Rattle.sccs_rcs.proofs.bodies.put_closes.Goals as goal

pub returns-then-region-eq0 : goal.returns-then-region-eq0
returns-then-region-eq0 g c = same_text (none_closed c.args.region.inserter c.args.region.deleter c.if-region-eq0.true)
    (puts_nothing c.args.out.now _ _)

pub returns : goal.returns
returns g c =
    same_text (both_closed c.args.region.inserter c.args.region.deleter c.if-region-eq0.false)
    (puts_then c.in_ok-put_end.field-0 c.in_ok-put_end.was c.put_end.ensures c.put.ensures)
