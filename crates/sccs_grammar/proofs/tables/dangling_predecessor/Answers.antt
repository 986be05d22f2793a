use Rattle.std.proofs.Common.{drop, sym, ◌∙◌, arith, add-one}
use Rattle.std.proofs.lemmas.Bool.{ltb-false}
use Rattle.sccs_grammar.proofs.TableLaws.{lost_here, lost_on, lost_no_line, lost_end}
use Rattle.sccs_grammar.proofs.tables.dangling_predecessor.Goals as goal

pub returns-in_default : goal.returns-in_default
returns-in_default c =
    let past = ltb-false c.loop-at.at _ (sym c.in_default.ensures.lookup.0) in
    sym (c.loop-at.invariant ∙ lost_no_line c.args.table.now (drop c.loop-at.at c.args.table.now) c.args.lines.now
    c.loop-at.at past)

pub returns-then-not-is_there : goal.returns-then-not-is_there
returns-then-not-is_there c =
    sym (c.loop-at.invariant ∙ lost_here c.args.table.now c.args.lines.now c.loop-at.at c.in-Some.line.now
    c.index-table-at.result c.loop-at-test.true c.index-table-at.is c.in-Some.ensures.lookup.3.0
    c.in-Some.ensures.lookup.1 (sym c.is_there.ensures ∙ c.if-not-is_there.true))

pub loop-at-preserved : goal.loop-at-preserved
loop-at-preserved c =
    rw add-one (c.loop-at.invariant ∙ lost_on c.args.table.now c.args.lines.now c.loop-at.at c.in-Some.line.now
    c.index-table-at.result c.loop-at-test.true c.index-table-at.is c.in-Some.ensures.lookup.3.0
    c.in-Some.ensures.lookup.1 (sym c.is_there.ensures ∙ c.if-not-is_there.false))

pub returns : goal.returns
returns c = sym (c.loop-at.invariant ∙ lost_end c.args.table.now c.args.table.now (drop c.loop-at.at c.args.lines.now)
    c.loop-at.at (omega arith))
