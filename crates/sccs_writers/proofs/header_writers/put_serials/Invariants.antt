use Rattle.std.proofs.Common.{take, flat_map, Ok, ◌∷◌}
use Rattle.std.specs.Prelude.{decimal}
use Rattle.sccs_writers.specs.Puts.{PutsText}
use Rattle.sccs_writers.proofs.header_writers.put_serials.Given as goal

-- what stands for the items so far was put
abbrev pub invariant-loop-serial : goal.invariant-loop-serial
invariant-loop-serial g l =
    PutsText {T = Unit {0}} (flat_map (λ n. 32 ∷ decimal n) (take l.serial-index l.serials)) l.fn.out l.out
    (g.D.Disk.told l.fn.disk) (g.D.Disk.told l.disk) (g.D.Disk.faults l.fn.disk) (g.D.Disk.faults l.disk) (Ok tt)
