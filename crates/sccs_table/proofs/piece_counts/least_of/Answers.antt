use Rattle.sccs_table.proofs.LaneLaws.{lesser_bounds}
use Rattle.sccs_table.proofs.piece_counts.least_of.Goals as goal

pub returns-clause-before : goal.returns-clause-before
returns-clause-before c = λ k low. (lesser_bounds c.args.least c.args.lanes k c.fits-least.0 c.fits-lanes.0 low).0

pub returns-clause-here : goal.returns-clause-here
returns-clause-here c = λ k low. (lesser_bounds c.args.least c.args.lanes k c.fits-least.0 c.fits-lanes.0 low).1
