use Rattle.std.proofs.Common.{take, flat_map, Ok}
use Rattle.sccs_tokens.specs.Written.{ended}
use Rattle.sccs_writers.specs.Puts.{PutsText}
use Rattle.sccs_pfile.specs.Written.{entry_text}
use Rattle.sccs_pfile.proofs.writing.put_edits.Given as goal

-- the entries so far were put
abbrev pub invariant-loop-edit : goal.invariant-loop-edit
invariant-loop-edit g l =
    PutsText {T = Unit {0}} (flat_map (λ e. ended (entry_text e)) (take l.edit-index l.edits)) l.fn.out l.out
    (g.D.Disk.told l.fn.disk) (g.D.Disk.told l.disk) (g.D.Disk.faults l.fn.disk) (g.D.Disk.faults l.disk) (Ok tt)
