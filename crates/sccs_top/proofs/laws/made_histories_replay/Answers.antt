use Rattle.sccs_top.proofs.MadeHistoryLaws.{made_replayed}
use Rattle.sccs_top.proofs.laws.made_histories_replay.Goals as goal

pub returns : goal.returns
returns c = made_replayed
