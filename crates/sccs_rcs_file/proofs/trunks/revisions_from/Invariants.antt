use Rattle.std.proofs.Common.{◌≡◌, ◌-◌, ◌<◌, Some}
use Rattle.std.specs.Prelude.{option_map}
use Rattle.sccs_rcs_file.specs.Trunk.{revisions_from, revisions_at, with_all}
use Rattle.sccs_rcs_file.proofs.trunks.revisions_from.Given as goal

-- the revisions that came and those that are left are those of the trunk
abbrev pub invariant-revisions : goal.invariant-revisions
invariant-revisions l =
    (0 < l.count) × (l.count < 65537)
    × (with_all l.revisions (revisions_from (65536 - l.count) l.count l.above (option_map (λ n. n.now) l.next)
    l.fn.indexed.file.now) ≡ revisions_at (Some l.fn.head) l.fn.indexed.file.now)

abbrev pub decreases-revisions : goal.decreases-revisions
decreases-revisions l = 65537 - l.count
