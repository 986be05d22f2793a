use Rattle.sccs_store.proofs.Working.{cleared_moves}
use Rattle.sccs_recovery.proofs.recoveries.give_up.Goals as goal

pub returns-in-Ok-clause-moves : goal.returns-in-Ok-clause-moves
returns-in-Ok-clause-moves g c = cleared_moves c.args.name.now _ _ c.in-Ok.ensures.view
