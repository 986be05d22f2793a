use Rattle.std.proofs.Common.{true, false, rules, subst}
use Rattle.sccs_grammar.specs.Front.{line_after}
use Rattle.sccs_table.specs.FrontFile.{AnswersLine, read_as}
use Rattle.sccs_table.proofs.FrontLaws.{answered_first, no_line, line_answered, takes_line_at}
use Rattle.sccs_table.proofs.fronts.across_pieces.Goals as goal

pub returns-then-branch : goal.returns-then-branch
returns-then-branch g c = record {
  frame = search rules;
  first = answered_first _ c.with_line.new.parser c.with_line.result c.with_line.ensures;
  stays = c.in_ok-next_line.ensures.stays;
  further = search rules;
  accepted = search rules;
  hears = line_answered _ c.args.reader.now c.next_line.new.self c.args.number c.args.parser.now
      c.next_line.new.line.items (read_as c.with_line.new.parser c.with_line.result)
      (takes_line_at _ _ _ _ c.in_ok-next_line.field-0 true c.if-branch.true c.in_ok-next_line.ensures.told)
      (subst (λ line. AnswersLine (line_after c.args.number c.args.parser.now line)
      (read_as c.with_line.new.parser c.with_line.result)) c.as_slice.ensures.value c.with_line.ensures);
}

pub returns : goal.returns
returns g c = record {
  frame = search rules;
  first = search rules;
  stays = c.in_ok-next_line.ensures.stays;
  further = search rules;
  accepted = search rules;
  hears = no_line _ c.args.reader.now c.next_line.new.self c.args.number c.args.parser.now c.next_line.new.line.items
      (takes_line_at _ _ _ _ c.in_ok-next_line.field-0 false c.if-branch.false c.in_ok-next_line.ensures.told);
}
