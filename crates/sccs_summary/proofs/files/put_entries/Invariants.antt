use Rattle.std.proofs.Common.{take, flat_map, Ok}
use Rattle.sccs_writers.specs.Puts.{PutsText}
use Rattle.sccs_summary.specs.Summaries.{choice_of, live_text}
use Rattle.sccs_summary.proofs.files.put_entries.Given as goal

-- the deltas so far were put
abbrev pub invariant-loop-delta : goal.invariant-loop-delta
invariant-loop-delta g l =
    PutsText {T = Unit {0}} (flat_map (live_text (choice_of l.fn.choices)) (take l.delta-index l.records)) l.fn.to l.to
    (g.D.Disk.told l.fn.disk) (g.D.Disk.told l.disk) (g.D.Disk.faults l.fn.disk) (g.D.Disk.faults l.disk) (Ok tt)
