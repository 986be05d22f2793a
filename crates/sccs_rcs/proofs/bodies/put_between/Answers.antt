use Rattle.sccs_writers.proofs.PutLaws.{puts_nothing, puts_then, same_text}
use Rattle.sccs_rcs.proofs.RunLaws.{other_between, same_between}
use Rattle.sccs_rcs.proofs.bodies.put_between.Goals as goal

pub returns-then-is_same : goal.returns-then-is_same
returns-then-is_same g c = same_text (same_between c.args.last c.args.next c.if-is_same.ensures)
    (puts_nothing c.args.out.now _ _)

pub returns : goal.returns
returns g c =
    same_text (other_between c.args.last c.args.next c.if-is_same.ensures)
    (puts_then c.in_ok-put_closes.field-0 c.in_ok-put_closes.was c.put_closes.ensures c.put_opens.ensures)
