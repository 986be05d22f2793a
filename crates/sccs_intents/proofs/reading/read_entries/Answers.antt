use Rattle.std.proofs.Common.{◌≡◌, None, sym, ◌∙◌, arith, rules}
use Rattle.std.proofs.lemmas.Result.{err_from_is_err_and}
use Rattle.sccs_sid.specs.Reading.{behind}
use Rattle.sccs_intents.proofs.Turns.{at_end, by_line, line_adds, line_ends, line_fails, no_line}
use Rattle.sccs_intents.proofs.reading.read_entries.Goals as goal

pub returns-in_default : goal.returns-in_default
returns-in_default c =
    let none : None ≡ behind 10 c.lines.rest.now = search rules in
    no_line c.lines.number c.lines.entries c.lines.rest.now _ none c.lines.invariant.same

pub returns-then-closes : goal.returns-then-closes
returns-then-closes c =
    line_ends c.lines.number c.lines.entries c.cut_at.result.0.now c.in-Some.more.now _ c.closed.result
    (sym c.closes.ensures ∙ c.if-closes.true)
    (by_line c.lines.number c.lines.entries c.lines.rest.now c.cut_at.result.0.now c.in-Some.more.now _
    c.cut_at.ensures.piece (rw c.in-Some.is at c.cut_at.ensures.rest) c.lines.invariant.same)
    c.closed.ensures

pub returns-in_err-add_entry : goal.returns-in_err-add_entry
returns-in_err-add_entry c =
    let p = err_from_is_err_and c.from_residual.result c.from_residual.ensures.1 in
    rw (p.1, p.2)
    (line_fails c.lines.number c.lines.entries c.add_entry.new.entries c.cut_at.result.0.now c.in-Some.more.now _
    c.in_err-add_entry.field-0.0 (sym c.closes.ensures ∙ c.if-closes.false)
    (by_line c.lines.number c.lines.entries c.lines.rest.now c.cut_at.result.0.now c.in-Some.more.now _
    c.cut_at.ensures.piece (rw c.in-Some.is at c.cut_at.ensures.rest) c.lines.invariant.same)
    c.in_err-add_entry.ensures)

pub lines-preserved : goal.lines-preserved
lines-preserved c = record {
  same = line_adds c.lines.number c.lines.entries c.add_entry.new.entries c.cut_at.result.0.now c.in-Some.more.now _
      (sym c.closes.ensures ∙ c.if-closes.false)
      (by_line c.lines.number c.lines.entries c.lines.rest.now c.cut_at.result.0.now c.in-Some.more.now _
      c.cut_at.ensures.piece (rw c.in-Some.is at c.cut_at.ensures.rest) c.lines.invariant.same)
      c.in_ok-add_entry.ensures;
  short =
      let shorter = (rw c.in-Some.is at c.cut_at.ensures.shorter) in
      omega (arith, c.lines.invariant.short, shorter);
}

pub returns : goal.returns
returns c = at_end c.lines.number c.lines.entries c.lines.rest.now _ (sym c.is_empty.ensures ∙ c.lines-test.false)
    c.lines.invariant.same
