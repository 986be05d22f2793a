use Rattle.sccs_table.proofs.LaneLaws.{ends_fit, ends_sum, ends_bound}
use Rattle.sccs_table.proofs.piece_counts.with_ends.Goals as goal

pub overflow_add-result : goal.overflow_add-result
overflow_add-result c = ends_fit c.args.ends c.args.lanes c.fits-lanes.0 c.requires

pub returns-clause-sum : goal.returns-clause-sum
returns-clause-sum c = ends_sum c.args.ends c.args.lanes c.fits-ends.0 c.fits-lanes.0

pub returns-clause-bound : goal.returns-clause-bound
returns-clause-bound c = λ n small. ends_bound c.args.ends c.args.lanes n c.fits-lanes.0 small
