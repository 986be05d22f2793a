use Rattle.std.proofs.Common.{take, flat_map, Ok}
use Rattle.sccs_tokens.specs.Written.{ended, flag_line}
use Rattle.sccs_writers.specs.Puts.{PutsText}
use Rattle.sccs_writers.proofs.header_writers.put_flags.Given as goal

-- what stands for the items so far was put
abbrev pub invariant-loop-flag : goal.invariant-loop-flag
invariant-loop-flag g l =
    PutsText {T = Unit {0}} (flat_map (λ f. ended (flag_line f)) (take l.flag-index l.flags)) l.fn.out l.out
    (g.D.Disk.told l.fn.disk) (g.D.Disk.told l.disk) (g.D.Disk.faults l.fn.disk) (g.D.Disk.faults l.disk) (Ok tt)
