use Rattle.std.proofs.Common.{◌∙◌}
use Rattle.sccs_sets.proofs.LiveIndexes.{none_lives, some_lives}
use Rattle.sccs_sets.proofs.live_indexes.has_live.Goals as goal

pub returns-in-Some : goal.returns-in-Some
returns-in-Some c = λ records has. c.eq.ensures ∙ some_lives c.args.index.now.deltas records c.args.sid
    c.delta_at.result c.in-Some.named has (c.delta_at.ensures records has) c.in-Some.is

pub returns-in-None : goal.returns-in-None
returns-in-None c = λ records has. none_lives c.args.index.now.deltas records c.args.sid c.delta_at.result has
    (c.delta_at.ensures records has) c.in-None.is
