use Rattle.std.proofs.Common.{◌≡◌, min, take}
use Rattle.sccs_base.specs.Stream.{last_count}
use Rattle.sccs_script_laws.specs.Plans.{added_count}
use Rattle.sccs_splicer.proofs.splicers.count_lines.Given as goal

-- the lists so far were counted
abbrev pub invariant-loop-list : goal.invariant-loop-list
invariant-loop-list l = l.count ≡ min (added_count (take l.list-index l.added)) last_count
