use Rattle.sccs_base.proofs.Inserting.{names_more}
use Rattle.sccs_base.proofs.sets.set_of.Goals as goal

pub loop-name-preserved : goal.loop-name-preserved
loop-name-preserved c = names_more c.args.names.now c.loop-name.name-index c.name-item.result c.bytes.result.now
    c.loop-name.set c.insert_name.new.names c.loop-name-test.true c.name-item.is c.bytes.ensures c.loop-name.invariant
    c.in_ok-insert_name.ensures.more
