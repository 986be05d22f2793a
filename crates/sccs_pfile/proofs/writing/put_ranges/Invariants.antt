use Rattle.std.proofs.Common.{take, flat_map, Ok, ◌∷◌}
use Rattle.sccs_sid.specs.SidLists.{range_text}
use Rattle.sccs_writers.specs.Puts.{PutsText}
use Rattle.sccs_pfile.proofs.writing.put_ranges.Given as goal

-- the ranges so far were put
abbrev pub invariant-loop-range : goal.invariant-loop-range
invariant-loop-range g l =
    PutsText {T = Unit {0}} (flat_map (λ r. 44 ∷ range_text r) (take l.range-index l.ranges)) l.fn.out l.out
    (g.D.Disk.told l.fn.disk) (g.D.Disk.told l.disk) (g.D.Disk.faults l.fn.disk) (g.D.Disk.faults l.disk) (Ok tt)
