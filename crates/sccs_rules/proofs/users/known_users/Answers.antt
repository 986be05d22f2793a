use Rattle.sccs_base.proofs.Inserting.{names_more}
use Rattle.sccs_rules.proofs.users.known_users.Goals as goal

pub loop-user-preserved : goal.loop-user-preserved
loop-user-preserved c = names_more c.args.users.now c.loop-user.user-index c.user-item.result c.bytes.result.now
    c.loop-user.set c.insert_name.new.names c.loop-user-test.true c.user-item.is c.bytes.ensures.value
    c.loop-user.invariant c.in_ok-insert_name.ensures.more
