use Rattle.std.proofs.Common.{take, flat_map, Ok}
use Rattle.sccs_history.specs.declared.headers.Item.{Item}
use Rattle.sccs_tokens.specs.Written.{ended, item_line}
use Rattle.sccs_writers.specs.Puts.{PutsText}
use Rattle.sccs_writers.proofs.item_writers.ItemWriter.put_items.Given as goal

-- the items so far were put
abbrev pub invariant-loop-item : goal.invariant-loop-item
invariant-loop-item g l =
    PutsText {T = Unit {0}} (flat_map (λ (item : Item). ended (item_line item)) (take l.item-index l.items)) l.fn.self
    l.self (g.D.Disk.told l.fn.disk) (g.D.Disk.told l.disk) (g.D.Disk.faults l.fn.disk) (g.D.Disk.faults l.disk)
    (Ok tt)
