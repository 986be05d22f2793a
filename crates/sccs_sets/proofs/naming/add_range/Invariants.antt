use Rattle.std.proofs.Common.{◌≡◌, drop, fold, length}
use Rattle.sccs_sets.specs.Naming.{AreMarks, add_new, add_range}
use Rattle.sccs_sets.proofs.naming.add_range.Given as goal

-- the serials so far, and those of the rest, are all, and the marks say which there are
abbrev pub invariant-loop-named : goal.invariant-loop-named
invariant-loop-named l =
    (fold (λ ns q. add_new ns q.serial) l.seen (drop l.named-index l.named-items) ≡ add_range l.fn.records l.fn.seen
    l.fn.range) × AreMarks l.seen l.marks × (length l.marks ≡ 65536)
