use Rattle.std.proofs.Common.{ℕ, List, subst, sym}
use Rattle.sccs_tokens.specs.Written.{ended}
use Rattle.sccs_disk.specs.Calls.{IsThere}
use Rattle.sccs_writers.specs.Puts.{PutsText}
use Rattle.sccs_writers.proofs.PutLaws.{part_cut, part_put, puts_nothing}
use Rattle.sccs_writers.proofs.item_writers.ItemWriter.put_lines.Goals as goal

pub put_line-requires : goal.put_line-requires
put_line-requires g c = subst (λ n. IsThere n (g.D.Disk.told c.loop-line.disk)) (sym c.loop-line.invariant.name)
    (c.loop-line.invariant.only.there c.requires)

pub loop-line-init : goal.loop-line-init
loop-line-init g c = puts_nothing c.args.self.now _ _

pub returns-in-Err : goal.returns-in-Err
returns-in-Err g c =
    part_cut ended c.args.lines.now c.loop-line.line-index c.line-item.result c.loop-line-test.true c.args.self.now
    c.loop-line.self c.put_line.new.self _ _ _ _ _ _ c.put_line.result c.in-Err.fault c.in-Err.is
    c.loop-line.invariant (subst (λ (x : List ℕ). PutsText (ended x) c.loop-line.self c.put_line.new.self
    (g.D.Disk.told c.loop-line.disk) (g.D.Disk.told c.put_line.new.disk) (g.D.Disk.faults c.loop-line.disk)
    (g.D.Disk.faults c.put_line.new.disk) c.put_line.result) c.line-item.is c.put_line.ensures)

pub loop-line-preserved : goal.loop-line-preserved
loop-line-preserved g c =
    part_put ended c.args.lines.now c.loop-line.line-index c.line-item.result c.loop-line-test.true c.args.self.now
    c.loop-line.self c.put_line.new.self _ _ _ _ _ _ c.put_line.result c.in_default.field-0 c.in_default.is
    c.loop-line.invariant (subst (λ (x : List ℕ). PutsText (ended x) c.loop-line.self c.put_line.new.self
    (g.D.Disk.told c.loop-line.disk) (g.D.Disk.told c.put_line.new.disk) (g.D.Disk.faults c.loop-line.disk)
    (g.D.Disk.faults c.put_line.new.disk) c.put_line.result) c.line-item.is c.put_line.ensures)
