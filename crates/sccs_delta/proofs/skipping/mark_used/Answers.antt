use Rattle.std.proofs.Common.{◌&&◌, ◌||◌, not, false, slice_index_or, sym, ap, ◌∙◌, arith}
use Rattle.std.specs.List.{list_any}
use Rattle.sccs_delta.specs.DeltaStep.{is_on_trunk}
use Rattle.sccs_base.proofs.Bools.{or_assoc}
use Rattle.sccs_delta.proofs.skipping.mark_used.Goals as goal

pub returns-clause-marks : goal.returns-clause-marks
returns-clause-marks c = λ n lt.
    c.mark_reserved.ensures.marks n (omega (arith, lt, c.mark_live.ensures.size))
    ∙ (ap (λ t. t || list_any (is_on_trunk n) c.args.reserved.now) (c.mark_live.ensures.marks n lt)
    ∙ sym (or_assoc (slice_index_or c.args.used.now n false) (list_any (λ r. not r.removed && is_on_trunk n r.sid)
    c.args.records.now) (list_any (is_on_trunk n) c.args.reserved.now)))
