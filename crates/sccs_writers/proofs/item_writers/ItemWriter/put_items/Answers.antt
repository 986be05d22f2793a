use Rattle.std.proofs.Common.{subst, sym}
use Rattle.sccs_history.specs.declared.headers.Item.{Item}
use Rattle.sccs_tokens.specs.Written.{ended, item_line}
use Rattle.sccs_disk.specs.Calls.{IsThere}
use Rattle.sccs_writers.specs.Puts.{PutsText}
use Rattle.sccs_writers.proofs.PutLaws.{part_cut, part_put, puts_nothing}
use Rattle.sccs_writers.proofs.item_writers.ItemWriter.put_items.Goals as goal

pub put-requires : goal.put-requires
put-requires g c = subst (λ n. IsThere n (g.D.Disk.told c.loop-item.disk)) (sym c.loop-item.invariant.name)
    (c.loop-item.invariant.only.there c.requires)

pub loop-item-init : goal.loop-item-init
loop-item-init g c = puts_nothing c.args.self.now _ _

pub returns-in-Err : goal.returns-in-Err
returns-in-Err g c =
    part_cut (λ (item : Item). ended (item_line item)) c.args.items.now c.loop-item.item-index c.item-item.result
    c.loop-item-test.true c.args.self.now c.loop-item.self c.put.new.self _ _ _ _ _ _ c.put.result c.in-Err.fault
    c.in-Err.is c.loop-item.invariant
    (subst (λ (x : Item). PutsText (ended (item_line x)) c.loop-item.self c.put.new.self
    (g.D.Disk.told c.loop-item.disk) (g.D.Disk.told c.put.new.disk) (g.D.Disk.faults c.loop-item.disk)
    (g.D.Disk.faults c.put.new.disk) c.put.result) c.item-item.is c.put.ensures)

pub loop-item-preserved : goal.loop-item-preserved
loop-item-preserved g c =
    part_put (λ (item : Item). ended (item_line item)) c.args.items.now c.loop-item.item-index c.item-item.result
    c.loop-item-test.true c.args.self.now c.loop-item.self c.put.new.self _ _ _ _ _ _ c.put.result
    c.in_default.field-0 c.in_default.is c.loop-item.invariant
    (subst (λ (x : Item). PutsText (ended (item_line x)) c.loop-item.self c.put.new.self
    (g.D.Disk.told c.loop-item.disk) (g.D.Disk.told c.put.new.disk) (g.D.Disk.faults c.loop-item.disk)
    (g.D.Disk.faults c.put.new.disk) c.put.result) c.item-item.is c.put.ensures)
