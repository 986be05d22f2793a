use Rattle.std.proofs.Common.{◌≡◌, false, true, slice_index_or, slice_set, sym, ap, ◌∙◌, arith}
use Rattle.sccs_history.specs.Numbers.{has}
use Rattle.sccs_sets.proofs.Falling.{added_ok, marked_ok}
use Rattle.sccs_sets.proofs.naming.add_new.Goals as goal

pub returns-clause-value : goal.returns-clause-value
returns-clause-value c =
    let other : has c.args.seen.now c.args.number ≡ false =
    sym (c.requires.marks c.args.number) ∙ (ap (λ k. slice_index_or c.args.marks.now k false) (sym c.from-at.ensures)
    ∙ c.if-marks-at.false) in
    added_ok c.push.result c.args.seen.now c.push.new.self c.args.number other c.push.ensures.ok

pub returns-clause-marks : goal.returns-clause-marks
returns-clause-marks c =
    marked_ok c.push.result c.args.seen.now c.push.new.self c.args.marks.now _ c.args.number c.requires.marks
    (omega (arith, c.ranges.number.fits, c.requires.size))
    (ap (λ k. slice_set c.args.marks.now k true) c.from-at.ensures)
    c.push.ensures.ok
