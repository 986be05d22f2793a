use Rattle.std.proofs.Common.{take, flat_map, Ok}
use Rattle.sccs_writers.specs.Puts.{PutsText}
use Rattle.sccs_writers.proofs.piece_writers.PieceWriter.put_parts.Given as goal

-- the parts so far were put
abbrev pub invariant-loop-part : goal.invariant-loop-part
invariant-loop-part g l =
    PutsText {T = Unit {0}} (flat_map (λ p. p.now) (take l.part-index l.parts)) l.fn.self l.self
    (g.D.Disk.told l.fn.disk) (g.D.Disk.told l.disk) (g.D.Disk.faults l.fn.disk) (g.D.Disk.faults l.disk) (Ok tt)
