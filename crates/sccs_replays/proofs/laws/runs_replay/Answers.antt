use Rattle.sccs_replays.proofs.ReplayedRuns.{runs_replayed}
use Rattle.sccs_replays.proofs.laws.runs_replay.Goals as goal

pub returns : goal.returns
returns c = runs_replayed
