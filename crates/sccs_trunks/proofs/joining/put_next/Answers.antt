use Rattle.std.proofs.Common.{◌∙◌, ap, arith, refl}
use Rattle.sccs_trunks.specs.Cells.{cells_of, expand}
use Rattle.sccs_trunks.specs.Lefts.{left_cells}
use Rattle.sccs_trunks.proofs.Joins.{is_added, joins_closed, joins_new, joins_none}
use Rattle.sccs_trunks.proofs.PieceCells.{cells_push}
use Rattle.sccs_trunks.proofs.joining.put_next.Goals as goal

pub returns-in_default-clause-joined : goal.returns-in_default-clause-joined
returns-in_default-clause-joined c =
    joins_new c.args.piece (left_cells c.args.later.now) (left_cells c.args.first.now) (cells_of c.args.out.now.items)
    (cells_of c.push.new.self.items)
    (ap is_added c.in_default.is) (ap cells_of c.in_ok-push.ensures.items
    ∙ cells_push c.args.out.now.items c.args.piece)

pub returns-in_default-next-clause-joined : goal.returns-in_default-next-clause-joined
returns-in_default-next-clause-joined c =
    let none = c.in_default-next.ensures.none refl in
    joins_none c.in-Base.inserter c.in-Base.count (expand c.args.piece) (left_cells c.args.later.now)
    (left_cells c.args.first.now) (left_cells c.next.new.self)
    (cells_of c.args.out.now.items) (cells_of c.push-in_default-next.new.self.items)
    (ap expand c.in-Base.is) none.0 none.1 (ap cells_of c.in_ok-push-2.ensures.items
    ∙ cells_push c.args.out.now.items c.args.piece)

pub returns-clause-joined : goal.returns-clause-joined
returns-clause-joined c =
    joins_closed c.in-Some.below c.in-Base.inserter c.in-Base.count (expand c.args.piece) (left_cells c.args.later.now)
    (left_cells c.put_back.new.self)
    (left_cells c.args.first.now) (left_cells c.next.new.self) (cells_of c.args.out.now.items)
    (cells_of c.push-2.new.self.items)
    (ap expand c.in-Base.is) (omega (arith, c.if-count-eq0.false))
    (omega (arith, c.if-inserter-eq0.false, c.inserter.ensures))
    c.in-Some.ensures.some c.put_back.ensures.cells (ap cells_of c.in_ok-push-3.ensures.items
    ∙ cells_push c.args.out.now.items c.in-Some.below)
