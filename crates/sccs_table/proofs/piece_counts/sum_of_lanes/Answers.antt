use Rattle.std.proofs.Common.{◌∙◌}
use Rattle.sccs_table.proofs.LaneLaws.{lanes_fit, lanes_sum}
use Rattle.sccs_table.proofs.piece_counts.sum_of_lanes.Goals as goal

pub overflow_add-ends : goal.overflow_add-ends
overflow_add-ends c = lanes_fit c.args.ends c.requires c.fits-ends.0

pub returns : goal.returns
returns c = c.from.ensures ∙ lanes_sum c.args.ends
