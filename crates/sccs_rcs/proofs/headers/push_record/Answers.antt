use Rattle.sccs_rcs.proofs.HeaderLaws.{at_index, record_pushed, spelled_pushed}
use Rattle.sccs_rcs.proofs.headers.push_record.Goals as goal

pub returns-clause-value : goal.returns-clause-value
returns-clause-value c = λ lines are.
    record_pushed _ _ c.in_ok-record.record _ c.in_ok-push.ensures.ok (c.in_ok-record.ensures.value lines
    (at_index c.args.counts.now c.args.below _ _ (are.each c.args.below c.requires.room)))

pub returns-clause-spelled : goal.returns-clause-spelled
returns-clause-spelled c = λ are. spelled_pushed _ _ c.in_ok-record.record c.in_ok-push.ensures.ok
    c.in_ok-record.ensures.spelled are
