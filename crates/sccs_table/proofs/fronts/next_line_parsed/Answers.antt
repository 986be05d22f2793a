use Rattle.std.proofs.Common.{refl, rules}
use Rattle.sccs_table.specs.FrontFile.{read_as}
use Rattle.sccs_table.proofs.FrontLaws.{answered_first, line_answered}
use Rattle.sccs_table.proofs.fronts.next_line_parsed.Goals as goal

pub returns : goal.returns
returns g c = record {
  frame = search rules;
  first = answered_first _ c.with_line-read.new.parser c.with_line-read.result c.with_line-read.ensures;
  stays = c.pass_line.ensures.stays _;
  further = search rules;
  accepted = search rules;
  hears = line_answered _ c.args.reader.now c.pass_line.new.self c.args.number c.args.parser.now c.in-Some.line.now
      (read_as c.with_line-read.new.parser c.with_line-read.result)
      (c.pass_line.ensures.told _ c.in-Some.line.now c.in-Some.ensures.line refl c.in-Some.ensures.front)
      c.with_line-read.ensures;
}
