use Rattle.sccs_delta.proofs.Replaying.{calls_replayed}
use Rattle.sccs_delta.proofs.laws.histories_replay.Goals as goal

pub returns : goal.returns
returns c = calls_replayed
