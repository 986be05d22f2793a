use Rattle.std.proofs.Common.{◌≡◌, ◌+◌, ◌-◌, None, Some, sym, subst, arith}
use Rattle.std.specs.Prelude.{option_map}
use Rattle.sccs_rcs_file.specs.FactsSeen.{found_seen}
use Rattle.sccs_rcs_file.specs.Trunk.{revisions_from, revision_of, revisions_at, with_all}
use Rattle.sccs_rcs_file.proofs.TrunkWalk.{walk_begins, walk_full, walk_goes_on}
use Rattle.sccs_rcs_file.proofs.trunks.revisions_from.Goals as goal

pub revisions-init : goal.revisions-init
revisions-init c = (
  omega arith,
  omega arith,
  subst (λ l. with_all l (revisions_from (65536 - 1) 1 None (Some c.args.head.now) c.args.indexed.now.file.now)
      ≡ revisions_at (Some c.args.head.now) c.args.indexed.now.file.now) (sym c.empty-revisions.ensures)
      (walk_begins c.args.indexed.now.file.now c.args.head.now),
)

pub returns-then-count-gt-MOST_REVISIONS : goal.returns-then-count-gt-MOST_REVISIONS
returns-then-count-gt-MOST_REVISIONS c =
    walk_full c.revisions.revisions c.revisions.count c.revisions.above c.in-Some.number.now c.args.indexed.now.file.now
    (revisions_at (Some c.args.head.now) c.args.indexed.now.file.now)
    (omega (arith, c.if-count-gt-MOST_REVISIONS.true))
    (subst (λ o. with_all c.revisions.revisions (revisions_from (65536 - c.revisions.count) c.revisions.count
    c.revisions.above (option_map (λ n. n.now) o) c.args.indexed.now.file.now) ≡ revisions_at (Some c.args.head.now)
    c.args.indexed.now.file.now)
    c.in-Some.is c.revisions.invariant.2)

pub revisions-preserved : goal.revisions-preserved
revisions-preserved c = (
  omega arith,
  omega (arith, c.if-count-gt-MOST_REVISIONS.false),
  walk_goes_on c.revisions.revisions c.push.new.self c.revisions.count (c.revisions.count + 1) c.revisions.above
      c.in-Some.number.now c.args.indexed.now.file.now c.in-Some-found.found.revision
      (option_map (λ n. n.now) c.in-Some-found.found.next)
      (revisions_at (Some c.args.head.now) c.args.indexed.now.file.now)
      c.revisions.invariant.0 (omega (arith, c.if-count-gt-MOST_REVISIONS.false)) (omega arith) c.in-Ok-push.ensures.ok
      (subst (λ o. option_map found_seen o ≡ revision_of c.revisions.above c.in-Some.number.now
      c.args.indexed.now.file.now) c.in-Some-found.is c.in-Ok.ensures)
      (subst (λ o. with_all c.revisions.revisions (revisions_from (65536 - c.revisions.count) c.revisions.count
      c.revisions.above (option_map (λ n. n.now) o) c.args.indexed.now.file.now) ≡ revisions_at
      (Some c.args.head.now) c.args.indexed.now.file.now)
      c.in-Some.is c.revisions.invariant.2),
)
