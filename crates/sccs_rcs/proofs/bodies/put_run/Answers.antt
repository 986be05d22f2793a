use Rattle.sccs_writers.proofs.PutLaws.{puts_nothing, puts_then, same_text}
use Rattle.sccs_rcs.specs.RunItems.{region_of}
use Rattle.sccs_rcs.proofs.RunLaws.{no_lines, run_put}
use Rattle.sccs_rcs.proofs.bodies.put_run.Goals as goal

pub returns-then-is_empty : goal.returns-then-is_empty
returns-then-is_empty g c = same_text (no_lines c.args.last (region_of c.args.run.now) c.args.run.now.lines.now
    c.if-is_empty.ensures) (puts_nothing c.args.out.now _ _)

pub returns : goal.returns
returns g c =
    same_text (run_put c.args.last c.region_of.result c.args.run.now c.region_of.ensures c.if-is_empty.ensures)
    (puts_then c.in_ok-put_between.field-0 c.in_ok-put_between.was c.put_between.ensures c.put_lines.ensures)
