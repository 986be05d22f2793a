use Rattle.sccs_crash_points.proofs.Recovering.{recovered_once, sound_pair}
use Rattle.sccs_crash_points.proofs.laws.recovery_is_made_once.Goals as goal

pub returns-clause-once : goal.returns-clause-once
returns-clause-once c = recovered_once

pub returns-clause-sound : goal.returns-clause-sound
returns-clause-sound c = sound_pair
