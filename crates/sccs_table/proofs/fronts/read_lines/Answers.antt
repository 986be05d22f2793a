use Rattle.std.proofs.Common.{◌+◌, ◌∙◌, Ok, ap, sym, subst, rules, arith}
use Rattle.sccs_disk.specs.Told.{seen}
use Rattle.sccs_grammar.specs.Front.{start}
use Rattle.sccs_history.specs.History.{IsSpelled, KeepsRules}
use Rattle.sccs_grammar.proofs.ParserRules.{line_keeps, whole_keeps}
use Rattle.sccs_grammar.proofs.SpelledParsers.{line_spelled, whole_spelled}
use Rattle.sccs_table.specs.ReaderState.{bytes_in}
use Rattle.sccs_table.specs.FrontFile.{Reads}
use Rattle.sccs_table.proofs.FrontLaws.{lines_on, lines_done}
use Rattle.sccs_table.proofs.ReaderLaws.{same_file, stays_on}
use Rattle.sccs_table.proofs.fronts.read_lines.Goals as goal

pub returns-then-is_whole-clause-told : goal.returns-then-is_whole-clause-told
returns-then-is_whole-clause-told g c =
    let begun = bytes_in (seen (g.D.Disk.told c.args.disk.now)) c.args.reader.now.name in
    let here = bytes_in (seen (g.D.Disk.told c.lines.disk)) c.lines.reader.name in
    let file_is = same_file _ _ _ _ (ap seen c.lines.invariant.same) c.lines.invariant.name in
    subst (λ header. Reads begun c.args.reader.now c.next_line_parsed.new.reader start 2
    (Ok (header, c.lines.number + 1))) (sym c.header_of.ensures)
    (lines_done begun here c.args.reader.now c.lines.reader c.next_line_parsed.new.reader start c.lines.parser
    c.next_line_parsed.new.parser 2 c.lines.number file_is c.lines.invariant.goes
    c.in_ok-next_line_parsed.ensures.hears (sym c.is_whole.ensures ∙ c.if-is_whole.true))

pub returns-then-is_whole-clause-rules : goal.returns-then-is_whole-clause-rules
returns-then-is_whole-clause-rules g c =
    let kept = line_keeps c.lines.number c.lines.parser c.next_line_parsed.new.parser
    c.in_ok-next_line_parsed.ensures.accepted.0 c.in_ok-next_line_parsed.ensures.accepted.2
    c.lines.invariant.kept in
    subst KeepsRules (sym c.header_of.ensures) (whole_keeps c.next_line_parsed.new.parser (sym c.is_whole.ensures
    ∙ c.if-is_whole.true) kept)

pub returns-then-is_whole-clause-spelled : goal.returns-then-is_whole-clause-spelled
returns-then-is_whole-clause-spelled g c =
    let spelled = line_spelled c.lines.number c.lines.parser c.next_line_parsed.new.parser
    c.in_ok-next_line_parsed.ensures.accepted.0 c.in_ok-next_line_parsed.ensures.accepted.1
    c.in_ok-next_line_parsed.ensures.accepted.2 c.lines.invariant.spelled in
    subst IsSpelled (sym c.header_of.ensures) (whole_spelled c.next_line_parsed.new.parser spelled)

pub lines-preserved : goal.lines-preserved
lines-preserved g c =
    let begun = bytes_in (seen (g.D.Disk.told c.args.disk.now)) c.args.reader.now.name in
    let here = bytes_in (seen (g.D.Disk.told c.lines.disk)) c.lines.reader.name in
    let file_is = same_file _ _ _ _ (ap seen c.lines.invariant.same) c.lines.invariant.name in
    record {
      same = search rules;
      later = search rules;
      name = search rules;
      limit = search rules;
      stays = stays_on begun here c.args.reader.now c.lines.reader c.next_line_parsed.new.reader file_is
          c.lines.invariant.stays c.in_ok-next_line_parsed.ensures.stays;
      ahead = omega (arith, c.in_ok-next_line_parsed.ensures.further, c.in_ok-next_line_parsed.ensures.frame.ahead);
      within = omega (arith, c.in_ok-next_line_parsed.ensures.further, c.in_ok-next_line_parsed.ensures.frame.ahead);
      kept = line_keeps c.lines.number c.lines.parser c.next_line_parsed.new.parser
          c.in_ok-next_line_parsed.ensures.accepted.0 c.in_ok-next_line_parsed.ensures.accepted.2
          c.lines.invariant.kept;
      spelled = line_spelled c.lines.number c.lines.parser c.next_line_parsed.new.parser
          c.in_ok-next_line_parsed.ensures.accepted.0 c.in_ok-next_line_parsed.ensures.accepted.1
          c.in_ok-next_line_parsed.ensures.accepted.2 c.lines.invariant.spelled;
      goes = lines_on begun here c.args.reader.now c.lines.reader c.next_line_parsed.new.reader start c.lines.parser
          c.next_line_parsed.new.parser 2 c.lines.number file_is c.lines.invariant.goes
          c.in_ok-next_line_parsed.ensures.hears (sym c.is_whole.ensures ∙ c.if-is_whole.false);
    }
