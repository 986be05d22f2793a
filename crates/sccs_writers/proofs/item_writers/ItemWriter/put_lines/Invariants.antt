use Rattle.std.proofs.Common.{take, flat_map, Ok}
use Rattle.sccs_tokens.specs.Written.{ended}
use Rattle.sccs_writers.specs.Puts.{PutsText}
use Rattle.sccs_writers.proofs.item_writers.ItemWriter.put_lines.Given as goal

-- the lines so far were put
abbrev pub invariant-loop-line : goal.invariant-loop-line
invariant-loop-line g l =
    PutsText {T = Unit {0}} (flat_map ended (take l.line-index l.lines)) l.fn.self l.self (g.D.Disk.told l.fn.disk)
    (g.D.Disk.told l.disk) (g.D.Disk.faults l.fn.disk) (g.D.Disk.faults l.disk) (Ok tt)
