use Rattle.sccs_tokens.proofs.ControlLaws.{written_line}
use Rattle.sccs_tokens.proofs.body_lines.written_behind.Goals as goal

pub returns-clause-sound : goal.returns-clause-sound
returns-clause-sound c = written_line c.args.letter c.in_ok-serial.serial c.in_ok-serial.count c.args.word.now
    c.in_ok-item.item c.in_ok-item.ensures.other c.in_ok-serial.ensures.sound c.in_ok-item.ensures.item
