use Rattle.std.proofs.Common.{take, flat_map, Ok}
use Rattle.sccs_tokens.specs.Written.{ended, mr_line}
use Rattle.sccs_writers.specs.Puts.{PutsText}
use Rattle.sccs_writers.proofs.header_writers.put_mrs.Given as goal

-- what stands for the items so far was put
abbrev pub invariant-loop-line : goal.invariant-loop-line
invariant-loop-line g l =
    PutsText {T = Unit {0}} (flat_map (λ t. ended (mr_line t)) (take l.line-index l.mrs)) l.fn.out l.out
    (g.D.Disk.told l.fn.disk) (g.D.Disk.told l.disk) (g.D.Disk.faults l.fn.disk) (g.D.Disk.faults l.disk) (Ok tt)
