use Rattle.std.proofs.Common.{◌∙◌, ◌++◌, ap, arith}
use Rattle.sccs_trunks.specs.Cells.{cells_of, count_of, expand}
use Rattle.sccs_trunks.specs.Lefts.{left_cells, left_size}
use Rattle.sccs_trunks.proofs.Joins.{fewer_both, joins_both}
use Rattle.sccs_trunks.proofs.PieceCells.{cells_push}
use Rattle.sccs_trunks.proofs.joining.put_both.Goals as goal

pub returns-clause-joined : goal.returns-clause-joined
returns-clause-joined c =
    joins_both c.args.below c.split.result.0 c.args.inserter c.args.count c.min-both.result (expand c.split.result.1)
    (expand c.begun.result)
    (cells_of c.args.out.now.items) (left_cells c.args.first.now) (left_cells c.args.later.now)
    (left_cells c.put_rest.new.self) (left_cells c.put_rest-2.new.self)
    (cells_of c.push.new.self.items)
    c.requires.opened c.split.ensures.inserter c.split.ensures.count (omega (arith, c.min-both.ensures))
    c.split.ensures.cells c.begun.ensures c.put_rest.ensures.cells
    (c.put_rest-2.ensures.cells ∙ ap (λ l. l ++ left_cells c.args.later.now) c.base.ensures.cells)
    (ap cells_of c.in_ok-push.ensures.items ∙ cells_push c.args.out.now.items c.begun.result)

pub returns-clause-fewer : goal.returns-clause-fewer
returns-clause-fewer c =
    fewer_both (count_of c.args.below) c.args.count c.min-both.result (count_of c.split.result.1)
    (count_of c.base.result)
    (left_size c.args.first.now) (left_size c.args.later.now) (left_size c.put_rest.new.self)
    (left_size c.put_rest-2.new.self)
    (omega (arith, c.min-both.ensures, c.count.ensures)) c.split.ensures.rest c.base.ensures.count
    c.put_rest.ensures.none c.put_rest-2.ensures.none c.put_rest.ensures.most c.put_rest-2.ensures.most
