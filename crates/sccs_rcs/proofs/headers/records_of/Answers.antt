use Rattle.std.proofs.Common.{ap, arith, length, subst, sym}
use Rattle.std.specs.List.{AllByRecursion}
use Rattle.sccs_history.specs.History.{HasSpelling}
use Rattle.sccs_trunks.specs.TrunkHistories.{IsRevision}
use Rattle.sccs_rcs.proofs.HeaderLaws.{AreSoFar, all_came, none_came, one_more}
use Rattle.sccs_rcs.proofs.headers.records_of.Goals as goal

pub revisions-init : goal.revisions-init
revisions-init c = (
  subst (λ rs. AreSoFar c.args.revisions.now c.args.counts.now rs c.args.revisions.now) (sym c.empty-records.ensures)
      (none_came c.args.revisions.now c.args.counts.now),
  subst (AllByRecursion HasSpelling) (sym c.empty-records.ensures) tt,
  c.requires.each,
  omega arith,
)

pub push_record-requires-clause-is : goal.push_record-requires-clause-is
push_record-requires-clause-is c =
    (subst (AllByRecursion IsRevision) c.in-Some.ensures.cases.0 c.revisions.invariant.2).0

pub revisions-preserved : goal.revisions-preserved
revisions-preserved c = (
  one_more c.args.revisions.now c.args.counts.now c.revisions.records c.push_record.new.records c.in-Some.revision.now
      c.in-Some.behind.now c.in_ok-push_record.ensures.value
      (subst (AreSoFar c.args.revisions.now c.args.counts.now c.revisions.records) c.in-Some.ensures.cases.0
      c.revisions.invariant.0),
  c.in_ok-push_record.ensures.spelled c.revisions.invariant.1,
  (subst (AllByRecursion IsRevision) c.in-Some.ensures.cases.0 c.revisions.invariant.2).1,
  omega (arith, ap length c.in-Some.ensures.cases.0, c.revisions.invariant.3),
)

pub returns-clause-value : goal.returns-clause-value
returns-clause-value c = all_came c.args.revisions.now c.args.counts.now c.revisions.records c.revisions.rest.now
    c.in_default.ensures.cases c.revisions.invariant.0

pub returns-clause-spelled : goal.returns-clause-spelled
returns-clause-spelled c = c.revisions.invariant.1
