use Rattle.std.proofs.Common.{take, flat_map, Ok}
use Rattle.sccs_writers.specs.HeaderBytes.{entry_bytes}
use Rattle.sccs_writers.specs.Puts.{PutsText}
use Rattle.sccs_writers.proofs.header_writers.put_table.Given as goal

-- what stands for the items so far was put
abbrev pub invariant-loop-entry : goal.invariant-loop-entry
invariant-loop-entry g l =
    PutsText {T = Unit {0}} (flat_map (entry_bytes) (take l.entry-index l.records)) l.fn.out l.out
    (g.D.Disk.told l.fn.disk) (g.D.Disk.told l.disk) (g.D.Disk.faults l.fn.disk) (g.D.Disk.faults l.disk) (Ok tt)
