use Rattle.std.proofs.Common.{◌%◌, ◌∙◌, ap}
use Rattle.std.specs.Prelude.{sum}
use Rattle.sccs_table.specs.Runs.{lf_count}
use Rattle.sccs_table.proofs.MarkLaws.{whole}
use Rattle.sccs_table.proofs.piece_counts.BlockCount.of_piece.Goals as goal

pub returns-clause-lines : goal.returns-clause-lines
returns-clause-lines c = c.sum_of_lanes.ensures
    ∙ (c.requires.all.lines ∙ ap lf_count (whole c.args.piece.now c.requires.long))

pub returns-clause-total : goal.returns-clause-total
returns-clause-total c = c.requires.all.total ∙ ap (λ l. sum l % 65536) (whole c.args.piece.now c.requires.long)
