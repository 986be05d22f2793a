use Rattle.std.proofs.Common.{◌≡◌, [], drop, length}
use Rattle.sccs_sets.specs.Naming.{AreMarks, named_serials}
use Rattle.sccs_sets.proofs.naming.serials_by.Given as goal

-- the rest of the ranges, behind the serials so far, say what all of them say, and the marks say which there are
abbrev pub invariant-loop-place : goal.invariant-loop-place
invariant-loop-place l =
    (named_serials l.fn.records l.seen (drop l.place l.list) ≡ named_serials l.fn.records [] l.list)
    × AreMarks l.seen l.marks × (length l.marks ≡ 65536)
