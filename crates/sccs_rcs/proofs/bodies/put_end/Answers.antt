use Rattle.sccs_history.specs.declared.headers.Item.TheVariants.{End}
use Rattle.sccs_writers.proofs.PutLaws.{puts_nothing, same_text}
use Rattle.sccs_rcs.proofs.RunLaws.{none_put}
use Rattle.sccs_rcs.proofs.bodies.put_end.Goals as goal

pub returns-then-deleter-eq0 : goal.returns-then-deleter-eq0
returns-then-deleter-eq0 g c = same_text (none_put (End c.args.deleter) c.args.deleter c.if-deleter-eq0.true)
    (puts_nothing c.args.out.now _ _)
