use Rattle.std.proofs.Common.{◌+◌, ◌%◌, ap}
use Rattle.sccs_table.proofs.LaneLaws.{bytes_fit, bytes_sum}
use Rattle.sccs_table.proofs.piece_counts.sum_with.Goals as goal

pub overflow_add-result : goal.overflow_add-result
overflow_add-result c = bytes_fit c.args.lanes c.fits-lanes.1 c.fits-lanes.0

pub returns : goal.returns
returns c = ap (λ s. (c.args.total + s) % 65536) (bytes_sum c.args.lanes)
