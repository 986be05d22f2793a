use Rattle.sccs_table.proofs.LaneLaws.{none_low}
use Rattle.sccs_table.proofs.piece_counts.has_low.Goals as goal

pub returns : goal.returns
returns c = λ none k low. none_low c.args.least c.fits-least.0 none k low
