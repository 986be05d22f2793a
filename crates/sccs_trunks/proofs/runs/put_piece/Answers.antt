use Rattle.std.proofs.Common.{ap, arith}
use Rattle.sccs_trunks.specs.Cells.{expand}
use Rattle.sccs_trunks.specs.Runs.{run_lines}
use Rattle.sccs_trunks.proofs.RunLines.{put_base, put_new, put_short}
use Rattle.sccs_trunks.proofs.runs.put_piece.Goals as goal

pub returns-then-lines-count : goal.returns-then-lines-count
returns-then-lines-count c =
    put_short c.in-Base.inserter c.in-Base.count c.min.result (expand c.args.piece.now)
    (run_lines c.args.runs.now.items) (run_lines c.put_lines.new.runs.items)
    c.args.head.now c.split_at.result.0.now
    (ap expand c.in-Base.is) (omega (arith, c.if-lines-count.true)) (omega (arith, c.min.ensures))
    c.split_at.ensures.front c.split_at.ensures.front_len c.in_ok-put_lines-in-Base.ensures

pub returns-else-lines-count : goal.returns-else-lines-count
returns-else-lines-count c =
    put_base c.in-Base.inserter c.in-Base.count c.min.result (expand c.args.piece.now) (run_lines c.args.runs.now.items)
    (run_lines c.put_lines.new.runs.items)
    c.args.head.now c.split_at.result.0.now c.split_at.result.1.now
    (ap expand c.in-Base.is) (omega (arith, c.if-lines-count.false)) (omega (arith, c.min.ensures))
    c.split_at.ensures.front c.split_at.ensures.back c.split_at.ensures.front_len c.in_ok-put_lines-in-Base.ensures

pub returns-in_ok-put_lines-in-New : goal.returns-in_ok-put_lines-in-New
returns-in_ok-put_lines-in-New c =
    put_new c.in-New.deleter c.in-New.inserter c.in-New.lines.now (expand c.args.piece.now)
    (run_lines c.args.runs.now.items) (run_lines c.put_lines-in-New.new.runs.items)
    c.args.head.now (ap expand c.in-New.is) c.in_ok-put_lines-in-New.ensures
