use Rattle.sccs_crash_points.proofs.CalmDisks.{calm_firm, calm_settled}
use Rattle.sccs_crash_points.proofs.laws.calm_disks_are_firm.Goals as goal

pub returns-clause-firm : goal.returns-clause-firm
returns-clause-firm c = calm_firm

pub returns-clause-synced : goal.returns-clause-synced
returns-clause-synced c = calm_settled
