use Rattle.std.proofs.Common.{◌&&◌, ◌||◌, not, false, slice_index_or, refl, sym, ◌∙◌, arith}
use Rattle.std.specs.List.{list_any}
use Rattle.std.proofs.lemmas.List.{at_drop_all}
use Rattle.sccs_delta.specs.DeltaStep.{is_on_trunk}
use Rattle.sccs_delta.proofs.SkippedLaws.{marked_on}
use Rattle.sccs_delta.proofs.skipping.mark_live.Goals as goal
use Rattle.sccs_base.proofs.Bools.{or_none}

pub loop-record-init : goal.loop-record-init
loop-record-init c = (refl, λ n lt. refl)

pub loop-record-preserved : goal.loop-record-preserved
loop-record-preserved c = (
  c.mark_record.ensures.size ∙ c.loop-record.invariant.0,
  λ n lt.
      marked_on (λ r. not r.removed && is_on_trunk n r.sid) c.args.records.now c.loop-record.record-index
      c.record-item.result c.record-item.result (slice_index_or c.loop-record.used n false)
      (slice_index_or c.mark_record.new.used n false) _
      c.loop-record-test.true c.record-item.is (c.mark_record.ensures.marks n
      (omega (arith, lt, c.loop-record.invariant.0))) (c.loop-record.invariant.1 n lt),
)

pub returns-clause-size : goal.returns-clause-size
returns-clause-size c = c.loop-record.invariant.0

pub returns-clause-marks : goal.returns-clause-marks
returns-clause-marks c = λ n lt.
    sym (or_none (slice_index_or c.loop-record.used n false))
    ∙ (sym (at_drop_all (λ l. slice_index_or c.loop-record.used n false || list_any (λ r. not r.removed
    && is_on_trunk n r.sid) l) c.args.records.now c.loop-record.record-index c.loop-record-test.false)
    ∙ c.loop-record.invariant.1 n lt)
