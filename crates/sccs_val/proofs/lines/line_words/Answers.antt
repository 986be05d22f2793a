use Rattle.sccs_sid.specs.Words.{words}
use Rattle.sccs_val.proofs.LineLaws.{val_meant}
use Rattle.sccs_val.proofs.lines.line_words.Goals as goal

pub returns-in-Ok-Val : goal.returns-in-Ok-Val
returns-in-Ok-Val c = val_meant (words c.args.line.now) c.in_ok-all.all c.in-Ok-Val.words c.in-Ok-Val.field-0
    c.in_ok-all.ensures c.in-Ok-Val.ensures.value c.in-Ok-Val.field-0-is
