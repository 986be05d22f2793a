use Rattle.std.proofs.Common.{◌||◌, false, get_or, slice_index_or, refl, sym, ◌∙◌, arith}
use Rattle.std.specs.List.{list_any}
use Rattle.std.proofs.lemmas.List.{at_drop_all}
use Rattle.sccs_sid.specs.declared.sids.Sid.{Sid}
use Rattle.sccs_delta.specs.DeltaStep.{is_on_trunk}
use Rattle.sccs_delta.proofs.SkippedLaws.{marked_on}
use Rattle.sccs_delta.proofs.skipping.mark_reserved.Goals as goal
use Rattle.sccs_base.proofs.Bools.{or_none}

pub loop-sid-init : goal.loop-sid-init
loop-sid-init c = (refl, λ n lt. refl)

pub loop-sid-preserved : goal.loop-sid-preserved
loop-sid-preserved c =
    let none : Sid = record { release = 0; level = 0; branch = 0; sequence = 0 } in (
      c.mark.ensures.size ∙ c.loop-sid.invariant.0,
      λ n lt.
          marked_on (is_on_trunk n) c.args.reserved.now c.loop-sid.sid-index none
          (get_or c.args.reserved.now c.loop-sid.sid-index none) (slice_index_or c.loop-sid.used n false)
          (slice_index_or c.mark.new.used n false) _
          c.loop-sid-test.true refl (c.mark.ensures.marks n (omega (arith, lt, c.loop-sid.invariant.0)))
          (c.loop-sid.invariant.1 n lt),
    )

pub returns-clause-size : goal.returns-clause-size
returns-clause-size c = c.loop-sid.invariant.0

pub returns-clause-marks : goal.returns-clause-marks
returns-clause-marks c = λ n lt.
    sym (or_none (slice_index_or c.loop-sid.used n false))
    ∙ (sym (at_drop_all (λ l. slice_index_or c.loop-sid.used n false || list_any (is_on_trunk n) l) c.args.reserved.now
    c.loop-sid.sid-index c.loop-sid-test.false) ∙ c.loop-sid.invariant.1 n lt)
