use Rattle.std.proofs.Common.{rules, subst}
use Rattle.sccs_copies.proofs.CheckLaws.{Notes, compared_next}
use Rattle.sccs_copies.proofs.result_checks.compare.Goals as goal

pub returns-clause-told : goal.returns-clause-told
returns-clause-told g c = λ file rest is comes.
    compared_next file c.args.line.now c.next_line.new.line.items c.args.check.now c.next_line.new.check
    c.note_line.new.check rest c.in_ok-there.there (search rules) c.in_ok-there.ensures.keeps.number
    (c.in_ok-there.ensures.told file rest is comes.left)
    (subst (λ other. Notes c.next_line.new.check c.note_line.new.check c.args.line.now other c.in_ok-there.there)
    c.as_slice.ensures.value
    (record {
      lines = c.note_line.ensures.keeps.lines;
      over = c.note_line.ensures.keeps.over;
      more =
          c.note_line.ensures.more;
      other_one = c.note_line.ensures.other;
      none = c.note_line.ensures.none;
    })) comes
