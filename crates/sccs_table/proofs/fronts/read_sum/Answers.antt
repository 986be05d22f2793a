use Rattle.std.proofs.Common.{◌∙◌, true, false, ap, arith, sym}
use Rattle.sccs_grammar.specs.File.{stored}
use Rattle.sccs_table.proofs.FrontLaws.{takes_line_at}
use Rattle.sccs_table.proofs.FileLaws.{no_sum_line, other_line, stored_long, sum_line_found}
use Rattle.sccs_table.proofs.fronts.read_sum.Goals as goal

pub returns-then-not-branch-clause-told : goal.returns-then-not-branch-clause-told
returns-then-not-branch-clause-told g c =
    no_sum_line _ c.args.reader.now c.next_line.new.self c.next_line.new.line.items c.requires
    (takes_line_at _ _ _ _ c.in_ok-next_line.field-0 false c.if-not-branch.true c.in_ok-next_line.ensures.told)

pub returns-in-Some-clause-place : goal.returns-in-Some-clause-place
returns-in-Some-clause-place g c =
    let long = stored_long c.next_line.new.line.items c.in-Some.sum (ap stored (sym c.as_slice.ensures.value)
    ∙ sym c.in-Some.ensures) in
    omega (arith, long, c.requires, c.in_ok-next_line.ensures.moved c.if-not-branch.false)

pub returns-in-Some-clause-told : goal.returns-in-Some-clause-told
returns-in-Some-clause-told g c =
    sum_line_found _ c.args.reader.now c.next_line.new.self c.next_line.new.line.items c.in-Some.sum c.requires
    (takes_line_at _ _ _ _ c.in_ok-next_line.field-0 true c.if-not-branch.false c.in_ok-next_line.ensures.told)
    (ap stored (sym c.as_slice.ensures.value) ∙ sym c.in-Some.ensures)

pub returns-clause-told : goal.returns-clause-told
returns-clause-told g c =
    other_line _ c.args.reader.now c.next_line.new.self c.next_line.new.line.items c.requires
    (takes_line_at _ _ _ _ c.in_ok-next_line.field-0 true c.if-not-branch.false c.in_ok-next_line.ensures.told)
    (ap stored (sym c.as_slice.ensures.value) ∙ sym c.in-None.ensures)
