use Rattle.sccs_splicer.proofs.Calls.{front_none, nothing_put}
use Rattle.sccs_splicer.proofs.parts.put_if.Goals as goal

pub returns-else-wanted : goal.returns-else-wanted
returns-else-wanted g c = nothing_put _ (front_none c.args.wanted c.args.item.now c.if-wanted.false) c.args.out.now _ _
